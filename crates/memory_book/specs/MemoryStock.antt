-- The places of all cells, as a book in memory keeps them, and how its calls change them.
use Rattle.std.specs.Prelude.{◌≡◌, ℕ, ◌+◌, ◌-◌, ◌≤◌, ⊤, Bool, false, List, filter, nat_le, nat_lt, if◌then◌else◌, Option, Some, option_map, unwrap_or}
use Rattle.std.specs.List.{list_all}
use Rattle.std.specs.BTreeMap as tree
use Rattle.allotment.specs.Want.{Wanted}
use Rattle.allotment.specs.Cells.{is_cell, cells_of}
use Rattle.allotment.specs.declared.cells.Cell.{Cell}
use Rattle.allotment.specs.declared.cells.Row.{Row}
use Rattle.plan.specs.PlanModel.{Planned, step_count, option_count, want_at}
pub use Rattle.commands.specs.CellKeys.{cell_key_cmp}
use Rattle.commands.specs.declared.items.Item.{Item}
use Rattle.commands.specs.declared.items.Item.TheVariants.{Transaction, Compensation}
use Rattle.ledger.specs.History.{last_of}
use Rattle.ledger.specs.Ledger.{places_in}
use Rattle.saga_core.specs.Views.{Places, places_said}
use Rattle.memory_book.specs.declared.stock.Stock.{Stock}
use Rattle.memory_book.specs.declared.stock.Change.{Change}
use Rattle.memory_book.specs.declared.stock.Change.TheVariants.{Take, GiveBack}

-- the places of a cell in the stock
abbrev pub stock_at : Stock → Cell → Option Places
stock_at stock x =
    option_map places_said (tree.get cell_key_cmp stock.places (record { cell = x }))

-- so many places of a cell are free
abbrev pub has_free_in : Stock → ℕ → Cell → Bool
has_free_in stock count x =
    unwrap_or (option_map (λ (p : Places). nat_le count p.free) (stock_at stock x)) false

-- a want fits: each of its cells has its count of free places
abbrev pub fits_in_stock : Stock → Wanted → Bool
fits_in_stock stock want = list_all (has_free_in stock want.count) (cells_of want)

-- with so many fewer free places, or none
abbrev pub with_less : ℕ → Places → Places
with_less n p = record { allot = p.allot; free = p.free - n }

-- with so many more free places, if so many are held
abbrev pub with_back : ℕ → Places → Places
with_back n p =
    if nat_le n (p.allot - p.free) then record { allot = p.allot; free = p.free + n } else p

-- the places of a cell after such a change of so many
abbrev pub changed_by : Change → ℕ → Places → Places
changed_by Take = with_less
changed_by GiveBack = with_back

-- the places of this cell change so, if it was loaded; those of other cells stay the same
abbrev pub ChangesOne : (Places → Places) → Cell → Stock → Stock → Type 0
ChangesOne change cell old new =
    (x : Cell) → stock_at new x
    ≡ (if is_cell x cell then option_map change (stock_at old cell) else stock_at old x)

-- the places of each cell of the want change by its count; those of other cells stay the same
abbrev pub ChangesEach : (ℕ → Places → Places) → Wanted → Stock → Stock → Type 0
ChangesEach change want old new =
    (x : Cell) → stock_at new x ≡ option_map (change (places_in x (Some want))) (stock_at old x)

-- the row has fewer places than journeys hold of its cell
abbrev pub is_below_in : Stock → Row → Bool
is_below_in stock row =
    unwrap_or
    (option_map (λ (p : Places). nat_lt row.places (p.allot - p.free)) (stock_at stock row.cell)) false

-- with another allotment; held places stay held
abbrev pub with_allotment : ℕ → Places → Places
with_allotment n p = record { allot = n; free = n - (p.allot - p.free) }

-- the places of a cell after it is allotted so many
abbrev pub set_to : Stock → Cell → ℕ → Places
set_to stock x n =
    unwrap_or (option_map (with_allotment n) (stock_at stock x)) (record { allot = n; free = n })

-- the last of these rows for this cell
abbrev pub last_row : List Row → Cell → Option Row
last_row rows x = last_of (filter (λ (r : Row). is_cell x r.cell) rows)

-- each cell of the rows has the places of its last row; other cells stay the same
abbrev pub LoadsRows : Stock → Stock → List Row → Type 0
LoadsRows old new rows =
    (x : Cell) → stock_at new x ≡ unwrap_or
    (option_map (λ (r : Row). Some (set_to old x r.places)) (last_row rows x)) (stock_at old x)

-- Changes by an item.

-- the step and the option of the item are in the plan
abbrev pub IsInPlan : Planned → Item → Type 0
IsInPlan plan (Transaction i c) =
    (1 ≤ i) × (i ≤ step_count plan) × (1 ≤ c) × (c ≤ option_count plan i)
IsInPlan plan (Compensation i c) =
    (1 ≤ i) × (i ≤ step_count plan) × (1 ≤ c) × (c ≤ option_count plan i)
IsInPlan plan _ = ⊤

-- there is a want, and it fits
abbrev pub fits_some : Stock → Option Wanted → Bool
fits_some stock want = unwrap_or (option_map (fits_in_stock stock) want) false

-- the item takes the places of its want, gives them back, or changes no places
abbrev pub ChangesFor : Planned → Item → Stock → Stock → Type 0
ChangesFor plan (Transaction i c) old new =
    (x : Cell) → stock_at new x
    ≡ option_map (with_less (places_in x (want_at plan i c))) (stock_at old x)
ChangesFor plan (Compensation i c) old new =
    (x : Cell) → stock_at new x
    ≡ option_map (with_back (places_in x (want_at plan i c))) (stock_at old x)
ChangesFor plan _ old new = (x : Cell) → stock_at new x ≡ stock_at old x
