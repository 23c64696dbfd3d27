-- The rows of stock give the places of cells. For Readings, and for the lemmas on stock.
use Rattle.std.proofs.Common.{◌≡◌, ◌≢◌, ℕ, ◌+◌, ◌<◌, ◌≤◌, ◌==◌, List, [], ◌∷◌, map, filter, find, Bool, true, false, Option, Some, None, refl, sym, ap, subst, ◌∙◌, arith, eqb-true, eq-eqb, filter_map, option_map, bytes_eq, rules}
use Rattle.std.specs.List.Sorted.{IsPermutation}
use Rattle.std.proofs.lemmas.Bool.{and_parts, and_from, leb-true, le-leb, false_from_ne_true}
use Rattle.std.proofs.lemmas.Slice.Eq.{bytes_eq-Decides}
use Rattle.std.proofs.lemmas.Bool.Decides.{nat_tests}
use Rattle.std.proofs.lemmas.Cmp.{on_total, then_total, nat_cmp_total, nat_list_cmp_total}
use Rattle.std.proofs.lemmas.Map.Text.{is_eq-slice_cmp}
use Rattle.std.specs.Cmp.{IsTotalOrder}
use Rattle.std.specs.Cmp.Lexicographic.{slice_cmp}
use Rattle.std.specs.Ordering.{is_lt, is_eq, ordering_then, nat_cmp}
use Rattle.std.specs.declared.cmp.Ordering.{Ordering}
use Rattle.std.specs.declared.cmp.Ordering.TheVariants.{Equal}
use Rattle.sqlite_trees.specs.Tree.{IsAscending}
use Rattle.sqlite_trees.proofs.ListLemmas.{ascending-filter, ascending-map}
use Rattle.sqlite_rules.specs.Lists.{Has}
use Rattle.sqlite_rules.proofs.ListLemmas.{all_has, test_from, has_filtered, has_kept, has_found}
use Rattle.sqlite_rules.proofs.ProbeLemmas.{has_mapped, mapped_has}
use Rattle.allotment.specs.Want.{Wanted}
use Rattle.allotment.specs.Cells.{cell_at, numbers_from}
use Rattle.allotment.specs.declared.cells.Cell.{Cell}
use Rattle.allotment.specs.declared.places.Held.{Held}
use Rattle.ledger.specs.Ledger.{Event}
use Rattle.saga_core.specs.Views.{Places, places_said, places_of, at_night, places_shown, places_at, cell_cmp, are_in_order, IsStock}
use Rattle.desk_sql.specs.Rows.{StockRow}
use Rattle.desk_sql.proofs.Members.{permutation_from, permutation_to}
use Rattle.sql_model.specs.Standing.{AreApart, is_stock_of, is_same_stock, places_told, stock_at, StockStands}
use Rattle.sql_model.specs.Reading.{is_wanted_row, night_told, stock_row_of}
use Rattle.desk_sql.specs.Stock.{IsByNight, IsByCell, cell_cmp as stock_cmp}
use Rattle.sql_model.proofs.Numbering.{has_chosen, chosen_has, ascending-chosen, numbers_within, within_numbers, numbers_rise}
use Rattle.sql_model.proofs.Orders.{Rises, pairs-permutation, ascending_where, ascending_both, one_rising, found_is_first, find-permutation}

-- two rows that match one cell are of the same cell
pub one_cell : (x : Cell) (r s : StockRow) → is_stock_of x r ≡ true → is_stock_of x s ≡ true
    → is_same_stock r s ≡ true
one_cell x r s p q = search (rules, arith, and_parts, eqb-true, bytes_eq-Decides, and_from, eq-eqb)

-- the row of a cell gives its places
pub stock_at-row : (rows : List StockRow) (x : Cell) (r : StockRow) → AreApart is_same_stock rows
    → Has rows r → is_stock_of x r ≡ true → stock_at rows x ≡ Some (places_told r)
stock_at-row rows x r once there on =
    ap (λ o. option_map places_told o)
    (found_is_first is_same_stock (is_stock_of x) rows (Some r) once (one_cell x) (has_kept (is_stock_of x) rows r there on))

-- the places of a cell are those of its row
pub row-stock_at : (rows : List StockRow) (x : Cell) (p : Places) → stock_at rows x ≡ Some p
    → (r : StockRow) × Has rows r × (is_stock_of x r ≡ true) × (places_told r ≡ p)
row-stock_at rows x p e = go (find (is_stock_of x) rows) refl
  where
    go : (o : Option StockRow) → find (is_stock_of x) rows ≡ o
        → (r : StockRow) × Has rows r × (is_stock_of x r ≡ true) × (places_told r ≡ p)
    go None f = let bad : None ≡ Some p = sym (ap (option_map places_told) f) ∙ e in cc
    go (Some r) f =
        let there = has_found (is_stock_of x) rows r f in
        (r, there.0, there.1, (let same : Some (places_told r) ≡ Some p = sym (ap (option_map places_told) f) ∙ e in cc))

-- Nights.

-- a row that is wanted is that of the want's cell at its night
pub wanted_cell : (w : Wanted) (r : StockRow) → 1 ≤ w.nights → is_wanted_row w r ≡ true
    → (is_stock_of (cell_at w r.night) r ≡ true) × (w.first ≤ r.night) × (r.night < w.first + w.nights)
wanted_cell w r some e = search (rules, arith, and_parts, and_from, eq-eqb, eqb-true, bytes_eq-Decides, leb-true)

-- the row of a want's cell is wanted
pub cell_wanted : (w : Wanted) (n : ℕ) (r : StockRow) → is_stock_of (cell_at w n) r ≡ true → w.first ≤ n
    → n < w.first + w.nights → (is_wanted_row w r ≡ true) × (r.night ≡ n)
cell_wanted w n r e low high = search (rules, arith, and_parts, eqb-true, and_from, eq-eqb, bytes_eq-Decides, le-leb)

-- the places shown of a want's nights, from a night on
abbrev shown_from : List Event → Wanted → ℕ → ℕ → List (ℕ × Places)
shown_from l w n k =
    filter_map (λ x. option_map (at_night x) (places_of l x)) (map (cell_at w) (numbers_from n k))

-- whether a night is shown
module _ (l : List Event) (w : Wanted) where
  -- what is shown of a cell: its night, with its places
  shown_at : (x : Cell) (p : ℕ × Places) → option_map (at_night x) (places_of l x) ≡ Some p
      → (p.0 ≡ x.night) × (places_of l x ≡ Some p.1)
  shown_at x p e = search (rules, arith)

  pub shown_has : (n k : ℕ) (p : ℕ × Places) → Has (shown_from l w n k) p
      → (n ≤ p.0) × (p.0 < n + k) × (places_of l (cell_at w p.0) ≡ Some p.1)
  shown_has n k p h = search (rules, arith, has_chosen, has_mapped, shown_at, numbers_within)

  pub has_shown : (n k : ℕ) (p : ℕ × Places) → n ≤ p.0 → p.0 < n + k
      → places_of l (cell_at w p.0) ≡ Some p.1 → Has (shown_from l w n k) p
  has_shown n k p low high e =
      chosen_has (λ (y : Cell). option_map (at_night y) (places_of l y)) (map (cell_at w) (numbers_from n k)) (cell_at w p.0) p
      (mapped_has (cell_at w) (numbers_from n k) p.0 (within_numbers n k p.0 low high))
      (ap (option_map (at_night (cell_at w p.0))) e)

  shown_rises : (n k : ℕ) → Rises (λ (p : ℕ × Places). p.0) (shown_from l w n k)
  shown_rises n k =
      ascending-chosen (λ (y : Cell). option_map (at_night y) (places_of l y)) (λ p q. p.0 < q.0) (λ x y. x.night < y.night)
      (λ x y p q low e f. let a = (shown_at x p e).0 in let b = (shown_at y q f).0 in omega arith)
      (map (cell_at w) (numbers_from n k))
      (ascending-map (λ (x y : Cell). x.night < y.night) (cell_at w) (numbers_from n k) (numbers_rise n k))

-- wanted rows of different cells are of different nights
apart_nights : (w : Wanted) (rows : List StockRow) → 1 ≤ w.nights → AreApart is_same_stock rows
    → IsAscending (λ (r s : StockRow). r.night ≢ s.night) (filter (is_wanted_row w) rows)
apart_nights w rows some once =
    ascending_where (λ (r s : StockRow). is_same_stock r s ≡ false)
    (λ (r s : StockRow). r.night ≢ s.night) (filter (is_wanted_row w) rows) differ
    (ascending-filter (λ (r s : StockRow). is_same_stock r s ≡ false) (is_wanted_row w) rows once)
  where
    differ : (r s : StockRow) → Has (filter (is_wanted_row w) rows) r
        → Has (filter (is_wanted_row w) rows) s → is_same_stock r s ≡ false → r.night ≡ s.night → ⊥
    differ r s h k off night = search (rules, arith, wanted_cell, has_filtered, one_cell)

-- the rows found of a want's nights, in order, give the nights that are shown
pub nights_found : (l : List Event) (rows found : List StockRow) (w : Wanted) → 1 ≤ w.nights
    → StockStands l rows → IsPermutation (filter (is_wanted_row w) rows) found
    → IsAscending IsByNight found
    → map night_told found ≡ places_shown l w
nights_found l rows found w some stand same sorted =
    one_rising (λ (p : ℕ × Places). p.0) (map night_told found) (places_shown l w)
    (ascending-map (λ (p q : ℕ × Places). p.0 < q.0) night_told found
    (ascending_both IsByNight (λ r s. r.night ≢ s.night) (λ r s. r.night < s.night)
    (λ r s low off. omega (arith, low, off)) found sorted
    (pairs-permutation (λ (r s : StockRow). r.night ≢ s.night) (λ r s off e. off (sym e)) (filter (is_wanted_row w) rows) found same (apart_nights w rows some stand.once))))
    (shown_rises l w w.first w.nights) forth back
  where
    forth : (p : ℕ × Places) → Has (map night_told found) p → Has (places_shown l w) p
    forth p h =
        let r = has_mapped night_told found p h in
        let there =
        has_filtered (is_wanted_row w) rows r.0
        (permutation_from (filter (is_wanted_row w) rows) found r.0 same r.1) in
        let on = wanted_cell w r.0 some there.1 in
        let told =
        sym (stand.each (cell_at w r.0.night))
        ∙ stock_at-row rows (cell_at w r.0.night) r.0 stand.once there.0 on.0 in
        subst (λ (q : ℕ × Places). Has (places_shown l w) q) (sym r.2)
        (has_shown l w w.first w.nights (night_told r.0) on.1 on.2 told)

    back : (p : ℕ × Places) → Has (places_shown l w) p → Has (map night_told found) p
    back p h =
        let s = shown_has l w w.first w.nights p h in
        let r = row-stock_at rows (cell_at w p.0) p.1 (stand.each (cell_at w p.0) ∙ s.2) in
        let on = cell_wanted w p.0 r.0 r.2 s.0 s.1 in
        let there =
        permutation_to (filter (is_wanted_row w) rows) found r.0 same
        (has_kept (is_wanted_row w) rows r.0 r.1 on.0) in
        let is : night_told r.0 ≡ p =
        ap (λ n. (n, places_told r.0)) on.1 ∙ ap (λ q. (p.0, q)) r.3 in
        subst (λ (q : ℕ × Places). Has (map night_told found) q) is
        (mapped_has night_told found r.0 there)

-- All cells.

pub same_back : (r s : StockRow) → is_same_stock r s ≡ false → is_same_stock s r ≡ false
same_back r s off = search (rules, arith, false_from_ne_true, and_parts, and_from, eq-eqb, eqb-true, bytes_eq-Decides)

-- rows that are apart are so in each order
stock_apart : (rows found : List StockRow) → IsPermutation rows found → AreApart is_same_stock rows
    → AreApart is_same_stock found
stock_apart rows found same once = search (rules, arith, pairs-permutation, same_back)

-- the places of each cell are the same in each order
stock_at-permutation : (rows found : List StockRow) (x : Cell) → IsPermutation rows found
    → AreApart is_same_stock rows → stock_at found x ≡ stock_at rows x
stock_at-permutation rows found x same once = search (rules, arith, find-permutation, one_cell)

-- the rows of the stock have one order
pub stock_total : IsTotalOrder stock_cmp
stock_total =
    then_total (on_total (λ (r : StockRow). r.kind) nat_cmp_total)
    (then_total (on_total (λ (r : StockRow). r.supplier) nat_list_cmp_total)
    (then_total (on_total (λ (r : StockRow). r.product) nat_list_cmp_total) (on_total (λ (r : StockRow). r.night) nat_cmp_total)))

both_tie : (o p : Ordering) → ordering_then o p ≡ Equal → (o ≡ Equal) × (p ≡ Equal)
both_tie o p e = search (rules, arith)

number_tie : (a b : ℕ) → nat_cmp a b ≡ Equal → (a == b) ≡ true
number_tie a b e = grind (arith, nat_tests)

text_tie : (a b : List ℕ) → slice_cmp nat_cmp a b ≡ Equal → bytes_eq a b ≡ true
text_tie a b e = sym (is_eq-slice_cmp a b) ∙ ap is_eq e

-- rows that compare equal are of one cell
tied_same : (r s : StockRow) → stock_cmp r s ≡ Equal → is_same_stock r s ≡ true
tied_same r s e = search (rules, arith, both_tie, and_from, number_tie, text_tie)

-- if the second of two cells is not before the first, the first is before the second
before : (r s : StockRow) → is_lt (stock_cmp s r) ≡ false → is_same_stock r s ≡ false
    → is_lt (stock_cmp r s) ≡ true
before r s up off = go (stock_cmp s r) refl up
  where
    go : (o : Ordering) → stock_cmp s r ≡ o → is_lt o ≡ false → is_lt (stock_cmp r s) ≡ true
    go o e f = search (rules, arith, stock_total, tied_same)

find-map : {X Y : Type 0} (f : X → Y) (p : Y → Bool) (xs : List X)
    → find p (map f xs) ≡ option_map f (find (λ x. p (f x)) xs)
find-map f p [] = refl
find-map f p (x ∷ xs) = search (rules, arith, find-map f p xs)

told_said : (o : Option (Cell × Held))
    → option_map places_told (option_map stock_row_of o) ≡ option_map (λ (c : Cell × Held). places_said c.1) o
told_said o = search (rules, arith)

-- the rows of a list of cells give the places of the list
listed_at : (cells : List (Cell × Held)) (x : Cell)
    → stock_at (map stock_row_of cells) x ≡ places_at cells x
listed_at cells x = search (rules, arith, find-map, told_said)

listed_in_order : (cells : List (Cell × Held)) → IsAscending IsByCell (map stock_row_of cells)
    → AreApart is_same_stock (map stock_row_of cells) → are_in_order cells ≡ true
listed_in_order [] up once = refl
listed_in_order (c ∷ cells) up once =
    and_from _ _
    (test_from (λ (d : Cell × Held). is_lt (cell_cmp c.0 d.0)) cells (λ d h.
    let there = mapped_has stock_row_of cells d h in
    before (stock_row_of c) (stock_row_of d)
    (all_has _ (map stock_row_of cells) (stock_row_of d) up.0 there)
    (all_has _ (map stock_row_of cells) (stock_row_of d) once.0 there)))
    (listed_in_order cells up.1 once.1)

-- a list of cells whose rows are those of the table, in order, shows the stock
pub stock_found : (l : List Event) (rows : List StockRow) (cells : List (Cell × Held))
    → StockStands l rows → IsPermutation rows (map stock_row_of cells)
    → IsAscending IsByCell (map stock_row_of cells)
    → IsStock l cells
stock_found l rows cells stand same up = record {
  each =
      λ x. sym (listed_at cells x)
      ∙ stock_at-permutation rows (map stock_row_of cells) x same stand.once ∙ stand.each x;
  in_order = listed_in_order cells up (stock_apart rows (map stock_row_of cells) same stand.once);
}
