-- Rows of stock of the same cell, and those after a change of some of them that leaves each row to its cell. For Puts and Wants.
use Rattle.std.proofs.Common.{◌≡◌, List, [], ◌∷◌, find, Bool, true, if◌then◌else◌, refl, eqb-true, eq-eqb, option_map, arith, ◌++◌, false, Option, Some, rules}
use Rattle.std.specs.List.{AllByRecursion, list_any}
use Rattle.std.proofs.lemmas.Bool.{and_parts, and_from}
use Rattle.std.proofs.lemmas.Slice.Eq.{bytes_eq-Decides}
use Rattle.sqlite_trees.proofs.ListLemmas.{ascending-map, all-map, all_weaker}
use Rattle.allotment.specs.Cells.{kind_number}
use Rattle.allotment.specs.declared.cells.Cell.{Cell}
use Rattle.desk_sql.specs.Lists.{changed}
use Rattle.desk_sql.specs.Rows.{StockRow}
use Rattle.sql_model.specs.Standing.{AreApart, is_stock_of, is_same_stock, IsOfCell}
use Rattle.sql_model.proofs.Orders.{ascending_where}

-- two rows have the parts of one cell
record AreOfOneCell (r s : StockRow) : Type 0 where
  kind : r.kind ≡ s.kind
  supplier : r.supplier ≡ s.supplier
  product : r.product ≡ s.product
  night : r.night ≡ s.night

-- two rows that pass the test have the parts of one cell
parts_of : (r s : StockRow) → is_same_stock r s ≡ true → AreOfOneCell r s
parts_of r s e = search (rules, arith, and_parts, eqb-true, bytes_eq-Decides)

-- two rows that have the parts of one cell pass the test
from_parts : (r s : StockRow) → AreOfOneCell r s → is_same_stock r s ≡ true
from_parts r s p = search (rules, arith, and_from, eq-eqb, bytes_eq-Decides)

-- the test is symmetric
pub same-turned : (r s : StockRow) → is_same_stock r s ≡ true → is_same_stock s r ≡ true
same-turned r s e = search (rules, arith, parts_of, from_parts)

-- the test is transitive
pub same-same : (r s q : StockRow) → is_same_stock r s ≡ true → is_same_stock s q ≡ true
    → is_same_stock r q ≡ true
same-same r s q e f = search (rules, arith, parts_of, from_parts)

-- the test is reflexive
pub same-self : (r : StockRow) → is_same_stock r r ≡ true
same-self r = from_parts r r (record { kind = refl; supplier = refl; product = refl; night = refl })

-- some row of a cell, by which tests of cells are tests of rows
abbrev pub row_of_cell : Cell → StockRow
row_of_cell x = record {
  kind = kind_number x.kind;
  supplier = x.supplier;
  product = x.product;
  night = x.night;
  allot = 0;
  free = 0;
}

-- A change of some rows.

-- What the first element that passes tells, after others were changed or one was appended.
module _ {X P : Type 0} (of row : X → Bool) (change : X → X) (told : X → P) (keeps : (r : X) → of (change r) ≡ of r) where
  abbrev told_at : List X → Option P
  told_at xs = option_map told (find of xs)

  -- if a change depends on whether the element passes, it tells what was changed, or nothing new
  pub told-if : (v : Bool) (h : P → P) → ((r : X) → of r ≡ true → row r ≡ v) → ((r : X) → told (change r) ≡ h (told r))
      → (xs : List X) → told_at (changed row change xs) ≡ (if v then option_map h (told_at xs) else told_at xs)
  told-if true h on new [] = refl
  told-if false h on new [] = refl
  told-if v h on new (r ∷ xs) = search (rules, arith, keeps r, on r, new r, told-if v h on new xs)

  -- if just those are changed that pass, and there is one, it tells what was changed
  pub told-changed : (p : P) → ((r : X) → of r ≡ row r) → ((r : X) → told (change r) ≡ p) → (xs : List X)
      → list_any row xs ≡ true → told_at (changed row change xs) ≡ Some p
  told-changed p on new [] some = cc
  told-changed p on new (r ∷ xs) some = search (rules, arith, keeps r, on r, new r, told-changed p on new xs)

  -- if there is none, the one that is appended tells
  pub told-added : (y : X) → ((r : X) → of r ≡ row r) → of y ≡ true → (xs : List X) → list_any row xs ≡ false
      → told_at (xs ++ y ∷ []) ≡ Some (told y)
  told-added y on is [] none = search (rules, arith)
  told-added y on is (r ∷ xs) none = search (rules, arith, on r, told-added y on is xs)

module _ (passes : StockRow → Bool) (change : StockRow → StockRow)
    (first : (r s : StockRow) → is_same_stock (change r) s ≡ is_same_stock r s)
    (second : (r s : StockRow) → is_same_stock r (change s) ≡ is_same_stock r s) where
  -- a row, changed if it passes
  abbrev row_now : StockRow → StockRow
  row_now r = if passes r then change r else r

  -- a changed row is of the same cell
  row_now-cell : (x : Cell) (r : StockRow) → is_stock_of x (row_now r) ≡ is_stock_of x r
  row_now-cell x r = search (rules, arith, second (row_of_cell x) r)

  -- two changed rows are of one cell exactly if they were before
  row_now-same : (r s : StockRow) → is_same_stock (row_now r) (row_now s) ≡ is_same_stock r s
  row_now-same r s = search (rules, arith)

  -- no two changed rows are of one cell
  pub once-changed : (rows : List StockRow) → AreApart is_same_stock rows
      → AreApart is_same_stock (changed passes change rows)
  once-changed rows once = search (rules, arith, ascending-map, ascending_where, row_now-same)

  -- each changed row is of some cell
  pub known-changed : (rows : List StockRow) → AllByRecursion IsOfCell rows
      → AllByRecursion IsOfCell (changed passes change rows)
  known-changed rows known = search (rules, arith, all-map, all_weaker, row_now-cell)
