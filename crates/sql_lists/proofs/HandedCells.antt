-- The cells in their only order are the answer of their query. For the functions of `cells`.
use Rattle.std.proofs.Common.{◌≡◌, ℕ, ℤ, pos, List, [], ◌∷◌, map, filter, Bool, true, false, is_lt, nat_cmp, Option, None, Some, refl, sym, ap, subst, ◌∙◌, arith}
use Rattle.std.specs.Ordering.{int_cmp}
use Rattle.std.proofs.lemmas.Int.{ints}
use Rattle.std.proofs.lemmas.Bool.Decides.{nat_tests}
use Rattle.sqlite.specs.declared.types.Value.TheVariants.{Text}
use Rattle.sqlite.specs.Order.{Row, value_cmp}
use Rattle.sqlite.specs.Query.{Output, IsAnswer, output_cmp}
use Rattle.sqlite.specs.Program.{overlay}
use Rattle.sqlite.specs.State.{State}
use Rattle.sqlite_value.proofs.OrderLemmas.{value_cmp-Int, value_cmp-Text, then-Equal}
use Rattle.sqlite_trees.specs.Tree.{Trees}
use Rattle.sqlite_trees.proofs.ListLemmas.{ascending_weaker}
use Rattle.desk_sql.specs.Lists.{IsTableOf, numbered_row}
use Rattle.desk_sql.specs.Rows.{whole, StockRow, stock_columns}
use Rattle.desk_sql.specs.FoundRows.{six_of}
use Rattle.desk_sql.specs.Stock.{stock_of, cell_cmp, IsByCell, shows_cell}
use Rattle.desk_sql.specs.RemainingRows.{IsOnlyOrder, IsStockInOrder, stock_shown}
use Rattle.desk_sql.specs.Meanings.{find_stock_query}
use Rattle.desk_sql.specs.declared.stock.CellFound.{CellFound}
use Rattle.desk_sql.proofs.Answering.{table_answers}
use Rattle.desk_sql.proofs.Reading.{passes}
use Rattle.sql_lists.specs.CellLists.{cell_list, cell_list_query, cell_list_tests}
use Rattle.sql_lists.proofs.HandedRows.{IsOnlyAnswer}

-- the output of each query for a cell
abbrev pub cell_out : StockRow → Output
cell_out s = (whole s.kind ∷ Text s.supplier ∷ Text s.product ∷ whole s.night ∷ [], stock_shown s)

pub number_cmp : (a b : ℕ) → value_cmp (whole a) (whole b) ≡ nat_cmp a b
number_cmp a b = value_cmp-Int (pos a) (pos b) ∙ same a b
  where
    same : (a b : ℕ) → int_cmp (pos a) (pos b) ≡ nat_cmp a b
    same a b = grind (arith, ints, nat_tests)

-- the order of each query is that of the cells
order_is : (s : Option (Bool × Bool)) (a b : StockRow) → output_cmp (cell_list_query s) (cell_out a) (cell_out b) ≡ cell_cmp a b
order_is s a b = simp (number_cmp, value_cmp-Text, then-Equal)

-- the cells that pass the tests of a statement, in their only order, are its answer
pub cells_answer : (s : Option (Bool × Bool)) (params : Row) (test : StockRow → Bool)
    → ((p : ℤ × StockRow) → passes (cell_list_tests s) params (numbered_row stock_columns p) ≡ test p.1)
    → (db : Trees) (cells later : List StockRow) → IsTableOf stock_columns (db 1) cells → IsOnlyOrder IsByCell (filter test cells) later
    → (rows : List Row) → IsAnswer (cell_list_query s) (overlay db []) params rows → rows ≡ map stock_shown later
cells_answer s params test test_is db cells later table one rows a =
    let it = table_answers 1 (cell_list_tests s) find_stock_query.project find_stock_query.order db params rows a refl stock_columns cells table
    cell_out (λ _. refl) test test_is in
    let values : it.values ≡ later = one it.values (record {
      same = it.same;
      rising = ascending_weaker _ _ (λ a b up. subst (λ o. is_lt o ≡ false) (order_is s b a) up) it.values it.rising;
    }) in
    it.rows_are ∙ ap (map stock_shown) values

all_pass : (xs : List StockRow) → filter (λ _. true) xs ≡ xs
all_pass [] = refl
all_pass (x ∷ xs) = ap (λ rest. x ∷ rest) (all_pass xs)

pub stock_only : (seen : State) → IsOnlyAnswer cell_list None [] IsStockInOrder seen
stock_only seen v t sees later is =
    cells_answer None [] (λ _. true) (λ _. refl) seen.now.trees t.stock later sees.rows.stock
    (subst (λ xs. IsOnlyOrder IsByCell xs later) (sym (all_pass t.stock)) is)

-- the cell that was read of a row is the one that the row shows
pub cell_back : (row : Row) (c : CellFound) (s : StockRow) → shows_cell c ≡ six_of row → row ≡ stock_shown s
    → Some (stock_of c) ≡ Some s
cell_back row c s read is = let e : shows_cell c ≡ stock_shown s = read ∙ ap six_of is in grind arith
