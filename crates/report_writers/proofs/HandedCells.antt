-- The cells that are asked for, in their only order. For `cell_rows`.
use Rattle.std.proofs.Common.{◌≡◌, ◌≢◌, inl, inr, ℕ, List, [], ◌∷◌, map, filter, true, Option, refl, subst, arith, nat_le}
use Rattle.std.specs.Ordering.{is_lt}
use Rattle.std.proofs.lemmas.Bool.{and_parts}
use Rattle.std.proofs.lemmas.Bool.Decides.{nat_tests}
use Rattle.sqlite_trees.proofs.ListLemmas.{ascending-filter}
use Rattle.sqlite_rules.specs.Lists.{Has}
use Rattle.sqlite_rules.proofs.ListLemmas.{has_filtered, has_kept}
use Rattle.sqlite_rules.proofs.ProbeLemmas.{mapped_has}
use Rattle.allotment.specs.Limits.{first_night, last_night}
use Rattle.allotment.specs.declared.cells.Cell.{Cell}
use Rattle.allotment.specs.declared.codes.Kind.{Kind}
use Rattle.saga_core.specs.CellFilters.{is_cell_of, is_to, last_day}
use Rattle.saga_core.specs.declared.cell_filters.CellFilter.{CellFilter}
use Rattle.sql_lists.specs.CellLists.{is_row_asked}
use Rattle.allotment.specs.declared.places.Held.{Held}
use Rattle.ledger.specs.Ledger.{Event, IsLegal}
use Rattle.saga_core.specs.Views.{IsStock}
use Rattle.desk_sql.specs.Rows.{StockRow}
use Rattle.desk_sql.specs.Stock.{IsByCell, cell_cmp as stock_cmp}
use Rattle.desk_sql.specs.RemainingRows.{IsOnlyOrder}
use Rattle.sql_model.specs.Standing.{StockStands}
use Rattle.sql_model.specs.Reading.{stock_row_of}
use Rattle.sql_model.proofs.StockRows.{stock_total}
use Rattle.sql_reads.proofs.GoodStock.{good_row}
use Rattle.report_writers.proofs.HandedStock.{in_order_strict, listed_row, row_listed, stock_apart}
use Rattle.report_writers.proofs.OneOrder.{only_compared}

to_same : (last : Option ℕ) (night : ℕ) → nat_le night last_night ≡ true → nat_le night (last_day last) ≡ is_to last night
to_same last night low = grind (arith, nat_tests)

module _ (l : List Event) (stock : List StockRow) (stand : StockStands l stock) (cells : List (Cell × Held)) (is : IsStock l cells) where
  -- a row is one of those that are asked for where its cell is
  each_asked : (kind : Kind) (f : CellFilter) (c : Cell × Held) → nat_le c.0.night last_night ≡ true
      → is_row_asked kind f (stock_row_of c) ≡ is_cell_of kind f c.0
  each_asked kind f c low = grind (arith, to_same)

  rows_asked : (kind : Kind) (f : CellFilter) (some : List (Cell × Held)) → ((c : Cell × Held) → Has some c → nat_le c.0.night last_night ≡ true)
      → filter (is_row_asked kind f) (map stock_row_of some) ≡ map stock_row_of (filter (λ (c : Cell × Held). is_cell_of kind f c.0) some)
  rows_asked kind f [] low = refl
  rows_asked kind f (c ∷ some) low =
      grind (arith, each_asked kind f c (low c (inl refl)), rows_asked kind f some (λ d h. low d (inr h)))

  module _ (legal : IsLegal l) (kind : Kind) (f : CellFilter) where
    -- each cell of the stock is of a night
    low_nights : (c : Cell × Held) → Has cells c → nat_le c.0.night last_night ≡ true
    low_nights c h =
        let good = good_row l legal stock stand (stock_row_of c) (listed_row l stock stand cells is (stock_row_of c) (mapped_has stock_row_of cells c h)) in
        (and_parts (nat_le first_night c.0.night) (nat_le c.0.night last_night) good.night).1

    abbrev all : List StockRow
    all = map stock_row_of cells

    -- the cells that are asked for have one order
    pub asked_in_order : IsOnlyOrder IsByCell (filter (is_row_asked kind f) stock)
        (map stock_row_of (filter (λ (c : Cell × Held). is_cell_of kind f c.0) cells))
    asked_in_order =
        let p = is_row_asked kind f in
        subst (IsOnlyOrder IsByCell (filter p stock)) (rows_asked kind f cells low_nights)
        (only_compared stock_cmp stock_total (filter p stock) (filter p all)
        (ascending-filter ◌≢◌ p stock (stock_apart stock stand.once))
        (ascending-filter (λ (r s : StockRow). is_lt (stock_cmp r s) ≡ true) p all (in_order_strict cells is.in_order))
        (λ r h. let kept = has_filtered p stock r h in has_kept p all r (row_listed l stock stand cells is r kept.0) kept.1)
        (λ r h. let kept = has_filtered p all r h in has_kept p stock r (listed_row l stock stand cells is r kept.0) kept.1))
