-- The rows of stock after the nights of a want got fewer free places, or more. For Moves.
use Rattle.std.proofs.Common.{◌≡◌, ℕ, ◌+◌, ◌-◌, ◌≤◌, List, Bool, true, if◌then◌else◌, Option, Some, None, refl, sym, ap, ◌∙◌, arith, option_map, false, rules}
use Rattle.sqlite_rules.proofs.ListLemmas.{some_has, some_from}
use Rattle.sqlite_rules.proofs.ProbeLemmas.{has_mapped, mapped_has}
use Rattle.allotment.specs.Want.{Wanted}
use Rattle.allotment.specs.Cells.{is_cell, cell_at, cells_of, numbers_from, wants_cell}
use Rattle.allotment.specs.declared.cells.Cell.{Cell}
use Rattle.ledger.specs.Ledger.{Event, held, allotment, places_in}
use Rattle.ledger.proofs.Cells.{is_cell-same}
use Rattle.saga_core.specs.Views.{Places}
use Rattle.desk_sql.specs.Lists.{changed}
use Rattle.desk_sql.specs.Rows.{StockRow}
use Rattle.desk_sql.specs.Stock.{with_fewer, with_more}
use Rattle.sql_model.specs.Standing.{is_stock_of, places_told, stock_at, StockStands}
use Rattle.sql_model.specs.Reading.{is_wanted_row}
use Rattle.sql_model.proofs.Numbering.{numbers_within, within_numbers}
use Rattle.sql_model.proofs.StockRows.{wanted_cell, cell_wanted}
use Rattle.sql_model.proofs.Changing.{told-if, once-changed, known-changed, same-turned, same-same, row_of_cell}

-- two tests that imply each other are equal
pub same_test : (a b : Bool) → (a ≡ true → b ≡ true) → (b ≡ true → a ≡ true) → a ≡ b
same_test a b forth back = search (rules, arith)

-- two cells with one row are equal
one_row : (x y : Cell) (r : StockRow) → is_stock_of x r ≡ true → is_stock_of y r ≡ true
    → is_cell x y ≡ true
one_row x y r p q =
    same-same (row_of_cell x) r (row_of_cell y) p (same-turned (row_of_cell y) r q)

-- the row of a cell is wanted exactly if the cell is
pub wanted_row : (w : Wanted) (x : Cell) (r : StockRow) → 1 ≤ w.nights → is_stock_of x r ≡ true
    → is_wanted_row w r ≡ wants_cell w x
wanted_row w x r some of = same_test (is_wanted_row w r) (wants_cell w x) forth back
  where
    forth : is_wanted_row w r ≡ true → wants_cell w x ≡ true
    forth on =
        let there = wanted_cell w r some on in
        some_from (is_cell x) (cells_of w) (cell_at w r.night)
        (mapped_has (cell_at w) (numbers_from w.first w.nights) r.night
        (within_numbers w.first w.nights r.night there.1 there.2))
        (one_row x (cell_at w r.night) r of there.0)

    back : wants_cell w x ≡ true → is_wanted_row w r ≡ true
    back on = search (rules, arith, some_has, has_mapped, numbers_within, cell_wanted, is_cell-same)

-- A change of the free places of a want's rows.
module _ (w : Wanted) (some : 1 ≤ w.nights) (freed : ℕ → ℕ) where
  -- the row of a wanted cell, with its free places changed
  abbrev with_freed : StockRow → StockRow
  with_freed r = record r { free = freed r.free }

  -- places of which as many are free
  abbrev freed_places : Places → Places
  freed_places p = record p { free = freed p.free }

  -- the places of a cell change if the cell is wanted
  stock_at-now : (rows : List StockRow) (x : Cell) → stock_at (changed (is_wanted_row w) with_freed rows) x
      ≡ (if wants_cell w x then option_map freed_places (stock_at rows x) else stock_at rows x)
  stock_at-now rows x =
      told-if (is_stock_of x) (is_wanted_row w) with_freed places_told (λ r. refl) (wants_cell w x) freed_places
      (λ r of. wanted_row w x r some of) (λ r. refl) rows

  -- if the held places change likewise, the changed rows are those of the longer ledger
  pub stock-now : (l m : List Event) (rows : List StockRow) → StockStands l rows
      → ((x : Cell) → allotment m x ≡ allotment l x)
      → ((x : Cell) (n : ℕ) → allotment l x ≡ Some n
      → (if wants_cell w x then freed (n - held l x) else n - held l x) ≡ n - held m x)
      → StockStands m (changed (is_wanted_row w) with_freed rows)
  stock-now l m rows stand allots frees = record {
    each =
        λ x. stock_at-now rows x ∙ ap (λ o. if wants_cell w x then option_map freed_places o else o) (stand.each x)
        ∙ places x (wants_cell w x) (allotment l x) (frees x)
        ∙ ap (option_map (λ (n : ℕ). record { allot = n; free = n - held m x })) (sym (allots x));
    once =
        once-changed (is_wanted_row w) with_freed (λ r s. refl) (λ r s. refl) rows stand.once;
    known =
        known-changed (is_wanted_row w) with_freed (λ r s. refl) (λ r s. refl) rows stand.known;
  }
    where
      places : (x : Cell) (v : Bool) (o : Option ℕ)
          → ((n : ℕ) → o ≡ Some n → (if v then freed (n - held l x) else n - held l x) ≡ n - held m x)
          → (if v then option_map freed_places (option_map (λ (n : ℕ). record { allot = n; free = n - held l x }) o)
          else option_map (λ (n : ℕ). record { allot = n; free = n - held l x }) o)
          ≡ option_map (λ (n : ℕ). record { allot = n; free = n - held m x }) o
      places x true (Some n) f = ap (λ k. Some (record { allot = n; free = k })) (f n refl)
      places x false (Some n) f = ap (λ k. Some (record { allot = n; free = k })) (f n refl)
      places x true None f = refl
      places x false None f = refl

-- after a want is taken, its nights have that many fewer free places
pub stock-taken : (l m : List Event) (w : Wanted) (rows : List StockRow) → 1 ≤ w.nights
    → StockStands l rows → ((x : Cell) → allotment m x ≡ allotment l x)
    → ((x : Cell) → held m x ≡ held l x + places_in x (Some w))
    → StockStands m (changed (is_wanted_row w) (with_fewer w.count) rows)
stock-taken l m w rows some stand allots holds =
    stock-now w some (λ n. n - w.count) l m rows stand allots
    (λ x n at. go x n (wants_cell w x) (holds x))
  where
    go : (x : Cell) (n : ℕ) (v : Bool) → held m x ≡ held l x + (if v then w.count else 0)
        → (if v then n - held l x - w.count else n - held l x) ≡ n - held m x
    go x n v e = search (rules, arith)

-- after a want is returned, its nights have that many more, if no more places were held than allotted
pub stock-given : (l m : List Event) (w : Wanted) (rows : List StockRow) → 1 ≤ w.nights
    → StockStands l rows → ((x : Cell) → allotment m x ≡ allotment l x)
    → ((x : Cell) → held l x ≡ held m x + places_in x (Some w))
    → ((x : Cell) (n : ℕ) → allotment l x ≡ Some n → held l x ≤ n)
    → StockStands m (changed (is_wanted_row w) (with_more w.count) rows)
stock-given l m w rows some stand allots holds within =
    stock-now w some (λ n. n + w.count) l m rows stand allots
    (λ x n at. go x n (wants_cell w x) (holds x) (within x n at))
  where
    go : (x : Cell) (n : ℕ) (v : Bool) → held l x ≡ held m x + (if v then w.count else 0)
        → held l x ≤ n → (if v then n - held l x + w.count else n - held l x) ≡ n - held m x
    go x n v e low = search (rules, arith)
