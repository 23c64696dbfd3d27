-- The rows of stock can be put in order, and then tell the stock. For the rows of cells and of holders.
use Rattle.std.proofs.Common.{◌≡◌, List, [], ◌∷◌, map, filter, cond, Bool, true, false, IsTrue, Ordering, Less, Equal, Greater, is_gt, is_lt, refl, sym, ap, ap₂, subst, ◌∙◌}
use Rattle.std.specs.List.{AllByRecursion}
use Rattle.std.specs.List.Sorted.{IsPermutation}
use Rattle.std.specs.Ordering.{ordering_reverse}
use Rattle.std.proofs.lemmas.Bool.{and_from}
use Rattle.std.proofs.lemmas.Cmp.{upto}
use Rattle.std.proofs.lemmas.List.Sorted.{IsPermutation-sym}
use Rattle.sqlite_keyed.specs.Lists.{insert_sorted, sort_by}
use Rattle.sqlite_keyed.proofs.SortLemmas.{IsPermutation-sort_by}
use Rattle.sqlite_rules.proofs.ListLemmas.{all_from, all_has, has_filtered}
use Rattle.sqlite_trees.specs.Tree.{IsAscending}
use Rattle.sqlite_trees.proofs.ListLemmas.{all_weaker}
use Rattle.allotment.specs.Limits.{is_good_cell}
use Rattle.allotment.specs.declared.cells.Cell.{Cell}
use Rattle.allotment.specs.declared.places.Held.{Held}
use Rattle.ledger.specs.Ledger.{Event, IsLegal}
use Rattle.saga_core.specs.Views.{IsStock}
use Rattle.desk_sql.specs.Lists.{IsListed}
use Rattle.desk_sql.specs.Rows.{StockRow}
use Rattle.desk_sql.specs.Stock.{IsByCell, cell_cmp}
use Rattle.desk_sql.proofs.Members.{permutation_from}
use Rattle.sql_model.specs.Reading.{stock_row_of}
use Rattle.sql_model.specs.Standing.{StockStands}
use Rattle.sql_model.proofs.StockRows.{stock_found, stock_total}
use Rattle.sql_reads.specs.GoodRows.{IsGoodStock}
use Rattle.sql_reads.proofs.GoodStock.{good_row}

-- the rows in order
abbrev pub in_order : List StockRow → List StockRow
in_order rows = sort_by cell_cmp rows

-- Rows are in order after they were sorted.

-- what is after a row has it before itself
turned : (r s : StockRow) → is_gt (cell_cmp r s) ≡ is_lt (cell_cmp s r)
turned r s = ap is_gt (stock_total.antisymm r s) ∙ back (cell_cmp s r)
  where
    back : (o : Ordering) → is_gt (ordering_reverse o) ≡ is_lt o
    back Less = refl
    back Equal = refl
    back Greater = refl

-- no row before the second is before the first
by_cell_twice : (r s t : StockRow) → IsByCell r s → IsByCell s t → IsByCell r t
by_cell_twice r s t one two = sym (turned r t) ∙ upto stock_total r s t (turned r s ∙ one) (turned s t ∙ two)

after_then : (o : Ordering) → is_gt o ≡ true → is_lt o ≡ false
after_then Less e = absurd (cc)
after_then Equal e = refl
after_then Greater e = refl

all_inserted : (P : StockRow → Type 0) (new : StockRow) (rows : List StockRow) → P new → AllByRecursion P rows
    → AllByRecursion P (insert_sorted cell_cmp new rows)
all_inserted P new [] one all = (one, tt)
all_inserted P new (r ∷ rows) one all =
    elim (is_gt (cell_cmp new r)) as (λ b. AllByRecursion P (cond b (r ∷ insert_sorted cell_cmp new rows) (new ∷ r ∷ rows))) [
      | true ↦ (all.0, all_inserted P new rows one all.1)
      | false ↦ (one, all)
    ]

rises_inserted : (new : StockRow) (rows : List StockRow) → IsAscending IsByCell rows
    → IsAscending IsByCell (insert_sorted cell_cmp new rows)
rises_inserted new [] up = (tt, tt)
rises_inserted new (r ∷ rows) up = go (is_gt (cell_cmp new r)) refl (rises_inserted new rows up.1)
  where
    go : (b : Bool) → is_gt (cell_cmp new r) ≡ b → IsAscending IsByCell (insert_sorted cell_cmp new rows)
        → IsAscending IsByCell (cond b (r ∷ insert_sorted cell_cmp new rows) (new ∷ r ∷ rows))
    go true e later = (all_inserted (IsByCell r) new rows (after_then (cell_cmp new r) e) up.0, later)
    go false e later =
        let first : IsByCell new r = sym (turned new r) ∙ e in
        ((first, all_weaker (IsByCell r) (IsByCell new) (λ s next. by_cell_twice new r s first next) rows up.0), up)

rises : (rows : List StockRow) → IsAscending IsByCell (in_order rows)
rises [] = tt
rises (r ∷ rows) = rises_inserted r (in_order rows) (rises rows)

pub listed_in_order : (rows : List StockRow) → IsListed IsByCell rows (in_order rows)
listed_in_order rows = record {
  same = IsPermutation-sym (in_order rows) rows (IsPermutation-sort_by cell_cmp stock_total rows);
  rising = rises rows;
}

-- The stock of a desk's tables.

-- the cell and the places of a good row
cell_told : (r : StockRow) → IsGoodStock r → (c : Cell × Held) × (stock_row_of c ≡ r) × IsTrue (is_good_cell c.0)
cell_told r good = (
  (
    record { kind = good.kind; supplier = r.supplier; product = r.product; night = r.night },
    record { allot = r.allot; free = r.free; within = good.places.free; bounded = good.places.few },
  ),
  ap (λ k. record r { kind = k }) good.kind_is,
  and_from _ _ (and_from _ _ good.supplier good.product) good.night,
)

cells_told : (rows : List StockRow) → AllByRecursion IsGoodStock rows
    → (cells : List (Cell × Held)) × (map stock_row_of cells ≡ rows) × AllByRecursion (λ (c : Cell × Held). IsTrue (is_good_cell c.0)) cells
cells_told [] all = ([], refl, tt)
cells_told (r ∷ rows) all =
    let one = cell_told r all.0 in
    let more = cells_told rows all.1 in
    (one.0 ∷ more.0, ap₂ ◌∷◌ one.1 more.1, (one.2, more.2))

-- the rows in order are good
pub good_in_order : (l : List Event) → IsLegal l → (rows : List StockRow) → StockStands l rows → AllByRecursion IsGoodStock (in_order rows)
good_in_order l legal rows stand =
    all_from IsGoodStock (in_order rows) (λ r h. good_row l legal rows stand r (permutation_from rows (in_order rows) r (listed_in_order rows).same h))

-- cells that the rows in order tell are the stock
pub stock_of_order : (l : List Event) (rows : List StockRow) → StockStands l rows → (cells : List (Cell × Held))
    → map stock_row_of cells ≡ in_order rows → IsStock l cells
stock_of_order l rows stand cells told =
    let listed = listed_in_order rows in
    stock_found l rows cells stand (subst (IsPermutation rows) (sym told) listed.same) (subst (IsAscending IsByCell) (sym told) listed.rising)

-- there is a stock, of cells that keep their limits
pub stock_there : (l : List Event) → IsLegal l → (rows : List StockRow) → StockStands l rows
    → (cells : List (Cell × Held)) × IsStock l cells × AllByRecursion (λ (c : Cell × Held). IsTrue (is_good_cell c.0)) cells
stock_there l legal rows stand =
    let told = cells_told (in_order rows) (good_in_order l legal rows stand) in (told.0, stock_of_order l rows stand told.0 told.1, told.2)

-- so are those that a test keeps
pub good_kept : (p : Cell × Held → Bool) (cells : List (Cell × Held)) → AllByRecursion (λ (c : Cell × Held). IsTrue (is_good_cell c.0)) cells
    → AllByRecursion (λ (c : Cell × Held). IsTrue (is_good_cell c.0)) (filter p cells)
good_kept p cells good =
    all_from (λ (c : Cell × Held). IsTrue (is_good_cell c.0)) (filter p cells)
    (λ c h. all_has (λ (d : Cell × Held). IsTrue (is_good_cell d.0)) cells c good (has_filtered p cells c h).0)
