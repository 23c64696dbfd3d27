-- What one more event changes of the allotment of a cell, and that it leaves room for what is held. For the law that no cell is
-- overfull, and for each desk that stores how many places are allotted.
use Rattle.std.proofs.Common.{◌≡◌, ℕ, ◌≤◌, List, [], ◌∷◌, ◌++◌, append-nil, true, Option, option_map, filter, arith, unwrap_or, refl, nat_le, false, find, option_to_list, IsTrue}
use Rattle.std.proofs.lemmas.Grind.{flat_map-append}
use Rattle.std.proofs.lemmas.List.Elements.{filter-append}
use Rattle.std.specs.List.{list_all, list_any}
use Rattle.allotment.specs.Cells.{is_cell}
use Rattle.allotment.specs.declared.cells.Cell.{Cell}
use Rattle.allotment.specs.declared.cells.Row.{Row}
use Rattle.ledger.specs.History.{last_of}
use Rattle.ledger.specs.Ledger.{Event, Loaded, rows_of, allotment, held, is_not_below_held, Began, Did, are_distinct, is_allowed}
use Rattle.ledger.proofs.Cells.{is_cell-same}
use Rattle.ledger.proofs.Lists.{last_of-append, last_of-some}
use Rattle.ledger.specs.JourneyChanges.{newer, places_in_rows}
use Rattle.std.proofs.lemmas.Bool.{leb-true, and_parts, or_parts, not-true}
use Rattle.plan.specs.PlanModel.{Planned}
use Rattle.commands.specs.declared.items.Item.{Item}

-- an event without rows leaves each allotment
pub allotment-same : (l : List Event) (e : Event) (x : Cell) → rows_of e ≡ []
    → allotment (l ++ e ∷ []) x ≡ allotment l x
allotment-same l e x none = grind (arith, flat_map-append, append-nil)

-- the places of the last row, if there is one
abbrev pub last_places : List Row → Option ℕ
last_places rows = option_map (λ (r : Row). r.places) (last_of rows)

-- the last of some rows and of some more is the last of these, if there is one
last-newer : (rows more : List Row)
    → last_places (rows ++ more) ≡ newer (last_places more) (last_places rows)
last-newer rows [] = grind (arith, append-nil)
last-newer rows (r ∷ more) = let some = last_of-some (r ∷ more) (omega arith) in grind (arith, last_of-append)

-- a batch gives a cell the places of its last row for it, if it has one
pub allotment-loaded_last : (l : List Event) (name : List ℕ) (rows : List Row) (x : Cell)
    → allotment (l ++ Loaded name rows ∷ []) x
    ≡ newer
    (option_map (λ (r : Row). r.places) (last_of (filter (λ (r : Row). is_cell x r.cell) rows)))
    (allotment l x)
allotment-loaded_last l name rows x = grind (arith, flat_map-append, append-nil, filter-append, last-newer)

-- of rows that are not below what is held, those of one cell have at least what is held of it
rows-room : (l : List Event) (x : Cell) (rows : List Row) → list_all (is_not_below_held l) rows ≡ true
    → list_all (λ (r : Row). nat_le (held l x) r.places) (filter (λ (r : Row). is_cell x r.cell) rows) ≡ true
rows-room l x [] all = refl
rows-room l x (r ∷ rows) all = grind (arith, is_cell-same x r.cell, rows-room l x rows)

-- if each of some rows has so many places, or there is none and the older allotment has, the newer allotment has
newer-room : (n : ℕ) (rows : List Row) (before : Option ℕ) → list_all (λ (r : Row). nat_le n r.places) rows ≡ true
    → n ≤ unwrap_or before 0 → n ≤ unwrap_or (newer (last_places rows) before) 0
newer-room n [] before all room = room
newer-room n (r ∷ []) before all room = grind (arith, leb-true)
newer-room n (r ∷ s ∷ rows) before all room = let rest = newer-room n (s ∷ rows) before in grind (arith, leb-true)

-- a batch that is not below what is held leaves room for what is held
pub allotment-room : (l : List Event) (name : List ℕ) (rows : List Row) (x : Cell)
    → list_all (is_not_below_held l) rows ≡ true → held l x ≤ unwrap_or (allotment l x) 0
    → held l x ≤ unwrap_or (allotment (l ++ Loaded name rows ∷ []) x) 0
allotment-room l name rows x enough room =
    rw (allotment-loaded_last l name rows x)
    (newer-room (held l x) (filter (λ (r : Row). is_cell x r.cell) rows) (allotment l x) (rows-room l x rows enough) room)

-- Each event.

-- a begin leaves each allotment
pub allotment-began : (l : List Event) (agent : List ℕ) (plan : Planned) (x : Cell)
    → allotment (l ++ Began agent plan ∷ []) x ≡ allotment l x
allotment-began l agent plan x = allotment-same l (Began agent plan) x refl

-- an item leaves each allotment
pub allotment-did : (l : List Event) (k : ℕ) (item : Item) (x : Cell)
    → allotment (l ++ Did k item ∷ []) x ≡ allotment l x
allotment-did l k item x = allotment-same l (Did k item) x refl

-- of rows that are not of this cell, none is
filter-none : (x y : Cell) (rows : List Row) → x ≡ y
    → list_any (λ (s : Row). is_cell y s.cell) rows ≡ false
    → filter (λ (s : Row). is_cell x s.cell) rows ≡ []
filter-none x y [] same none = refl
filter-none x y (r ∷ rows) same none = grind (arith, or_parts, filter-none x y rows same)

-- of rows that name each cell once, those of a cell are the first one, if there is one
filter-distinct : (x : Cell) (rows : List Row) → are_distinct rows ≡ true
    → filter (λ (s : Row). is_cell x s.cell) rows
    ≡ option_to_list (find (λ (s : Row). is_cell x s.cell) rows)
filter-distinct x [] distinct = refl
filter-distinct x (r ∷ rows) distinct =
    grind (arith, and_parts, not-true, filter-none x r.cell rows, is_cell-same x r.cell, filter-distinct x rows)

-- a batch that names each cell once gives its cells their places, and leaves the others
pub allotment-loaded : (l : List Event) (name : List ℕ) (rows : List Row) (x : Cell)
    → are_distinct rows ≡ true
    → allotment (l ++ Loaded name rows ∷ []) x ≡ newer (places_in_rows rows x) (allotment l x)
allotment-loaded l name rows x distinct = grind (arith, allotment-loaded_last, filter-distinct)

-- a batch that is allowed names each cell once
pub loaded_distinct : (l : List Event) (name : List ℕ) (rows : List Row)
    → IsTrue (is_allowed l (Loaded name rows)) → are_distinct rows ≡ true
loaded_distinct l name rows may = grind (arith, and_parts)
