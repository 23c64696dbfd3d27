-- The preconditions of the statements on the rows that they change: no number falls below 0 or passes the store's
-- integers, and a new number is above all others. For the functions that write an item.
use Rattle.std.proofs.Common.{◌≡◌, ℕ, ◌+◌, ◌-◌, ◌<◌, ◌≤◌, ◌^◌, List, [], ◌∷◌, length, filter, flat_map, true, false, Option, Some, None, IsTrue, refl, sym, ap, ◌∙◌, arith, option_map, nat_le, unwrap_or, IsPermutation, rules}
use Rattle.std.specs.List.{AllByRecursion, list_all}
use Rattle.std.proofs.lemmas.Bool.{and_parts, leb-true}
use Rattle.sqlite_rules.specs.Lists.{Has}
use Rattle.sqlite_rules.proofs.ListLemmas.{all_has, all_from, has_filtered, test_has}
use Rattle.sqlite_trees.proofs.ListLemmas.{all-append}
use Rattle.allotment.specs.Want.{Wanted}
use Rattle.allotment.specs.Limits.{most_count, most_places}
use Rattle.allotment.specs.Cells.{is_cell, cells_of, wants_cell}
use Rattle.allotment.specs.declared.cells.Cell.{Cell}
use Rattle.allotment.specs.declared.cells.Row.{Row}
use Rattle.ledger.specs.History.{last_of}
use Rattle.ledger.specs.Ledger.{Event, rows_of, held, allotment, has_free, fits, is_allowed, is_good_row, IsLegal}
use Rattle.ledger.proofs.Cells.{is_cell-same}
use Rattle.ledger.proofs.Growing.{induct}
use Rattle.ledger.proofs.Lists.{list_any-and_all}
use Rattle.saga_core.specs.Views.{places_of}
use Rattle.desk_sql.specs.Changes.{AreItemsBelow}
use Rattle.desk_sql.proofs.Members.{permutation_from}
use Rattle.desk_sql.specs.Rows.{Tables, StockRow}
use Rattle.desk_sql.specs.Stock.{is_within, HaveFree, HaveRoom}
use Rattle.desk_sql.specs.declared.stock.NightRange.{NightRange}
use Rattle.sql_model.specs.ExpectedRows.{entries_called}
use Rattle.sql_model.specs.Standing.{is_stock_of, places_told, StockStands}
use Rattle.sql_model.specs.Reading.{IsRangeOf}
use Rattle.sql_model.proofs.NextItems.{entries_from-within}
use Rattle.sql_model.proofs.Numbering.{flat_map_has}
use Rattle.sql_model.proofs.Taken.{last_has}
use Rattle.sql_model.proofs.StockRows.{stock_at-row}
use Rattle.sql_model.proofs.Ranges.{range_row}
use Rattle.sql_model.proofs.Wants.{wanted_row}

-- Items.

-- the next event's number is above the number of each item
pub items_below : (l : List Event) (t : Tables) → IsPermutation (entries_called l) t.entries
    → AreItemsBelow (length l + 1) t
items_below l t same =
    all_from _ t.entries (λ r h.
    let high = (entries_from-within 1 l r (permutation_from (entries_called l) t.entries r same h)).1 in omega arith)

-- Allotments.

-- the rows of a batch that is allowed keep the limits, and no other event has rows
good_rows : (l : List Event) (e : Event) → IsTrue (is_allowed l e) → list_all is_good_row (rows_of e) ≡ true
good_rows l e may = grind (arith, and_parts)

-- the rows of each event of a legal ledger keep the limits
pub rows_good : (l : List Event) → IsLegal l → AllByRecursion (λ e. list_all is_good_row (rows_of e) ≡ true) l
rows_good l legal =
    induct (AllByRecursion (λ e. list_all is_good_row (rows_of e) ≡ true)) tt
    (λ m e _ may all. all-append (λ d. list_all is_good_row (rows_of d) ≡ true) m (e ∷ []) all (good_rows m e may, tt)) l legal

-- the allotment of each cell keeps the limit of places
pub allotment_few : (l : List Event) → IsLegal l → (x : Cell) (n : ℕ) → allotment l x ≡ Some n
    → n ≤ most_places
allotment_few l legal x n e = go (last_of (filter (λ (r : Row). is_cell x r.cell) (flat_map rows_of l))) refl e
  where
    few : (r : Row) → is_good_row r ≡ true → r.places ≤ most_places
    few r good = search (rules, arith, and_parts, leb-true)

    go : (o : Option Row) → last_of (filter (λ (r : Row). is_cell x r.cell) (flat_map rows_of l)) ≡ o
        → option_map (λ (r : Row). r.places) o ≡ Some n → n ≤ most_places
    go None f e = cc
    go (Some r) f e =
        let there = has_filtered (λ (q : Row). is_cell x q.cell) (flat_map rows_of l) r (last_has _ r f) in
        let event = flat_map_has rows_of l r there.0 in
        let good = all_has _ l event.0 (rows_good l legal) event.1 in
        let low = few r (test_has is_good_row (rows_of event.0) r good event.2) in
        let same : r.places ≡ n = cc in
        omega arith

-- Nights.

-- what a row of stock says of its cell
record Says (l : List Event) (x : Cell) (r : StockRow) : Type 0 where
  allotted : allotment l x ≡ Some r.allot
  free : r.free ≡ r.allot - held l x

-- the places in a cell's row are those that are allotted and free
row_says : (l : List Event) (x : Cell) (r : StockRow) → places_of l x ≡ Some (places_told r) → Says l x r
row_says l x r e = search (rules, arith)

module _ (l : List Event) (t : Tables) (legal : IsLegal l) (stand : StockStands l t.stock) where
  -- each row says what is allotted and free of its cell
  each_says : (r : StockRow) → Has t.stock r → (x : Cell) × (is_stock_of x r ≡ true) × Says l x r
  each_says r h = search (rules, arith, all_has, row_says, stock_at-row)

  -- if a want fits, each of its nights has its count of free places
  pub nights_have_free : (r : NightRange) (w : Wanted) → IsRangeOf r w → 1 ≤ w.nights
      → fits l (Some w) ≡ true → HaveFree r w.count t
  nights_have_free r w is some fit = all_from _ t.stock each
    where
      room : (x : Cell) (n : ℕ) → wants_cell w x ≡ true → allotment l x ≡ Some n → held l x + w.count ≤ n
      room x n wanted at =
          let found = list_any-and_all (is_cell x) (has_free l w.count) (cells_of w) wanted fit in
          let free = ap (has_free l w.count) (is_cell-same x found.0 found.1) ∙ found.2 in
          leb-true (held l x + w.count) n
          (sym (ap (λ o. unwrap_or (option_map (λ places. nat_le (held l x + w.count) places) o) false) at) ∙ free)

      each : (s : StockRow) → Has t.stock s → is_within r s ≡ true → (w.count ≤ s.free) × (s.free < 2 ^ 63)
      each s h within =
          let says = each_says s h in
          let wanted =
          sym (wanted_row w says.0 s some says.1) ∙ sym (range_row r w is s) ∙ within in
          let enough = room says.0 s.allot wanted says.2.allotted in
          let few = allotment_few l legal says.0 s.allot says.2.allotted in
          let free = says.2.free in
          (omega arith, omega arith)

  -- each night of a want has room for its count of further places
  pub nights_have_room : (r : NightRange) (w : Wanted) → w.count ≤ most_count → HaveRoom r w.count t
  nights_have_room r w small = all_from _ t.stock each
    where
      each : (s : StockRow) → Has t.stock s → is_within r s ≡ true → s.free + w.count < 2 ^ 63
      each s h within =
          let says = each_says s h in
          let few = allotment_few l legal says.0 s.allot says.2.allotted in
          let free = says.2.free in
          omega arith
