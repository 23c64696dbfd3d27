-- The rows of stock after cells got other places, each in its own row or in a new one. For Loading.
use Rattle.std.proofs.Common.{◌≡◌, ℕ, ◌-◌, List, [], ◌∷◌, ◌++◌, find, cond, Bool, true, false, if◌then◌else◌, Option, Some, None, refl, sym, ap, ◌∙◌, option_map, not, arith, rules}
use Rattle.std.specs.List.{AllByRecursion, list_any}
use Rattle.std.proofs.lemmas.Bool.{and_parts, false_from_ne_true}
use Rattle.sqlite_trees.proofs.ListLemmas.{all-append}
use Rattle.sqlite_rules.proofs.ListLemmas.{all_from, some_from, has_found}
use Rattle.allotment.specs.Cells.{is_cell}
use Rattle.allotment.specs.declared.cells.Cell.{Cell}
use Rattle.allotment.specs.declared.cells.Row.{Row}
use Rattle.ledger.specs.Ledger.{are_distinct}
use Rattle.ledger.proofs.Cells.{is_cell-same}
use Rattle.saga_core.specs.Views.{Places}
use Rattle.desk_sql.specs.Lists.{changed}
use Rattle.desk_sql.specs.Rows.{Tables, StockRow}
use Rattle.desk_sql.specs.Stock.{is_cell as is_row_of, AreApart as AreCellsApart, with_places, put}
use Rattle.sql_model.specs.Standing.{AreApart, is_stock_of, is_same_stock, IsOfCell, places_told, stock_at}
use Rattle.sql_model.proofs.Finding.{find-last_fails, apart-last}
use Rattle.sql_model.proofs.Orders.{ascending_where}
use Rattle.sql_model.proofs.StockRows.{one_cell, same_back}
use Rattle.sql_model.proofs.Wants.{same_test}
use Rattle.sql_model.specs.Loading.{loaded_row, put_rows}
use Rattle.sql_model.proofs.Changing.{once-changed, known-changed, same-turned, same-same, same-self, row_of_cell, told-if, told-changed, told-added}

-- the statement's test of one cell is the same test
same_cell : (s r : StockRow) → is_row_of s r ≡ is_same_stock r s
same_cell s r = search (rules, arith)

-- rows of which no two are of one cell pass the statement's test
pub cells_apart : (t : Tables) → AreApart is_same_stock t.stock → AreCellsApart t
cells_apart t once = search (rules, arith, ascending_where, same_cell, same_back)

-- One cell.

-- a row of the new row's cell is of the cell x exactly if the new row is
of_new : (x : Cell) (s r : StockRow) → is_row_of s r ≡ true → is_stock_of x r ≡ is_stock_of x s
of_new x s r on =
    same_test (is_stock_of x r) (is_stock_of x s) (λ of. same-same (row_of_cell x) r s of (sym (same_cell s r) ∙ on))
    (λ of. same-same (row_of_cell x) s r of (same-turned r s (sym (same_cell s r) ∙ on)))

-- the cell of the new row has its places, and each other cell has those that it had
stock_at-put : (s : StockRow) (cells : List StockRow) (x : Cell)
    → stock_at (put s cells) x ≡ (if is_stock_of x s then Some (places_told s) else stock_at cells x)
stock_at-put s cells x = go (is_stock_of x s) refl (list_any (is_row_of s) cells) refl
  where
    own : is_stock_of x s ≡ true → (r : StockRow) → is_stock_of x r ≡ is_row_of s r
    own on r = search (rules, arith, same_test, same_cell, one_cell x r s, of_new x s r)

    go : (v : Bool) → is_stock_of x s ≡ v → (w : Bool) → list_any (is_row_of s) cells ≡ w
        → stock_at (if w then changed (is_row_of s) (with_places s) cells else cells ++ s ∷ []) x
        ≡ (if v then Some (places_told s) else stock_at cells x)
    go true on true some =
        told-changed (is_stock_of x) (is_row_of s) (with_places s) places_told (λ r. refl) (places_told s)
        (own on) (λ r. refl) cells some
    go true on false none =
        told-added (is_stock_of x) (is_row_of s) (with_places s) places_told (λ r. refl) s (own on) on cells none
    go false off true some =
        told-if (is_stock_of x) (is_row_of s) (with_places s) places_told (λ r. refl) false (λ p. places_told s)
        (λ r of. false_from_ne_true (is_row_of s r) (λ on. let same = of_new x s r on in cc)) (λ r. refl) cells
    go false off false none = ap (option_map places_told) (find-last_fails (is_stock_of x) cells s off)

module _ (s : StockRow) (cells : List StockRow) where
  -- no two rows are of one cell after a put
  once-put : AreApart is_same_stock cells → AreApart is_same_stock (put s cells)
  once-put once = search (rules, arith, false_from_ne_true, some_from, same_cell, once-changed, apart-last, all_from)

  -- each row is of some cell after a put
  known-put : IsOfCell s → AllByRecursion IsOfCell cells → AllByRecursion IsOfCell (put s cells)
  known-put new known = search (rules, arith, known-changed, all-append)

-- All cells of a batch.

module _ (holds : Cell → ℕ) where
  -- no two rows are of one cell after a batch
  pub once-rows : (rows : List Row) (cells : List StockRow) → AreApart is_same_stock cells
      → AreApart is_same_stock (put_rows holds rows cells)
  once-rows [] cells once = once
  once-rows (r ∷ rows) cells once = search (rules, arith, once-put, once-rows rows)

  -- each row is of some cell after a batch
  pub known-rows : (rows : List Row) (cells : List StockRow) → AllByRecursion IsOfCell cells
      → AllByRecursion IsOfCell (put_rows holds rows cells)
  known-rows [] cells known = known
  known-rows (r ∷ rows) cells known =
      known-rows rows (put (loaded_row (holds r.cell) r) cells)
      (known-put (loaded_row (holds r.cell) r) cells (r.cell, same-self (row_of_cell r.cell)) known)

  -- the places in a row of a batch, else those that were there
  abbrev pub places_given : Option Row → Option Places → Option Places
  places_given None before = before
  places_given (Some r) before =
      Some (record { allot = r.places; free = r.places - holds r.cell })

  -- if a batch names each cell once, its cells have the places of its rows, and each other cell has those that it had
  pub stock_at-rows : (rows : List Row) (cells : List StockRow) (x : Cell) → are_distinct rows ≡ true
      → stock_at (put_rows holds rows cells) x
      ≡ places_given (find (λ (r : Row). is_cell x r.cell) rows) (stock_at cells x)
  stock_at-rows [] cells x distinct = refl
  stock_at-rows (r ∷ rows) cells x distinct =
      stock_at-rows rows (put (loaded_row (holds r.cell) r) cells) x later.1
      ∙ ap (places_given (find (λ (q : Row). is_cell x q.cell) rows))
      (stock_at-put (loaded_row (holds r.cell) r) cells x)
      ∙ go (is_cell x r.cell) refl (find (λ (q : Row). is_cell x q.cell) rows) refl
    where
      later : (not (list_any (λ (q : Row). is_cell r.cell q.cell) rows) ≡ true) × (are_distinct rows ≡ true)
      later = and_parts (not (list_any (λ (q : Row). is_cell r.cell q.cell) rows)) (are_distinct rows) distinct

      go : (v : Bool) → is_cell x r.cell ≡ v → (o : Option Row)
          → find (λ (q : Row). is_cell x q.cell) rows ≡ o
          → places_given o (if v then Some (record { allot = r.places; free = r.places - holds r.cell })
          else stock_at cells x) ≡ places_given (cond v (Some r) o) (stock_at cells x)
      go false e o f = refl
      go true e None f = refl
      go true e (Some q) f =
          let there = has_found (λ (z : Row). is_cell x z.cell) rows q f in
          let again = some_from (λ (z : Row). is_cell r.cell z.cell) rows q there.0
          (ap (λ y. is_cell y q.cell) (sym (is_cell-same x r.cell e)) ∙ there.1) in
          let bad : false ≡ true = ap not (sym again) ∙ later.0 in
          cc
