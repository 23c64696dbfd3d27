-- The rows of the stock, in their only order. For `cell_rows`.
use Rattle.std.proofs.Common.{◌≡◌, ◌≢◌, inl, inr, ℕ, ◌≤◌, List, [], ◌∷◌, map, find, true, false, Option, Some, None, refl, sym, ap, ap₂, subst, ◌∙◌, eqb-true, eq-eqb, option_map, arith}
use Rattle.std.specs.Ordering.{is_lt}
use Rattle.std.proofs.Math.Bridge.{le_prop}
use Rattle.std.proofs.lemmas.Bool.{and_parts, and_from}
use Rattle.std.proofs.lemmas.Slice.Eq.{bytes_eq-Decides}
use Rattle.sqlite_trees.specs.Tree.{IsAscending}
use Rattle.sqlite_trees.proofs.ListLemmas.{ascending_weaker, all-map}
use Rattle.sqlite_rules.specs.Lists.{Has}
use Rattle.sqlite_rules.proofs.ListLemmas.{all_has, test_has, has_found, all_from}
use Rattle.sqlite_rules.proofs.ProbeLemmas.{has_mapped, mapped_has}
use Rattle.allotment.specs.Limits.{most_places}
use Rattle.allotment.specs.Cells.{kind_number, is_cell}
use Rattle.allotment.specs.declared.cells.Cell.{Cell}
use Rattle.allotment.specs.declared.places.Held.{Held}
use Rattle.ledger.specs.Ledger.{Event}
use Rattle.ledger.proofs.Cells.{is_cell-same}
use Rattle.saga_core.specs.Views.{Places, places_said, places_at, cell_cmp, are_in_order, IsStock}
use Rattle.desk_sql.specs.Rows.{StockRow}
use Rattle.desk_sql.specs.Stock.{IsByCell, cell_cmp as stock_cmp}
use Rattle.desk_sql.specs.RemainingRows.{IsOnlyOrder}
use Rattle.sql_model.specs.Standing.{AreApart, is_stock_of, is_same_stock, places_told, StockStands}
use Rattle.sql_model.specs.Reading.{stock_row_of}
use Rattle.sql_model.proofs.Finding.{find-none}
use Rattle.sql_model.proofs.StockRows.{stock_at-row, row-stock_at, stock_total}
use Rattle.report_writers.proofs.OneOrder.{not_before, only_compared}

-- a row is of the same cell as itself
same_self : (r : StockRow) → is_same_stock r r ≡ true
same_self r = grind (arith, and_from, eq-eqb, bytes_eq-Decides)

-- so rows of different cells differ
pub stock_apart : (rows : List StockRow) → AreApart is_same_stock rows → IsAscending ◌≢◌ rows
stock_apart rows once = grind (arith, ascending_weaker, same_self)

-- a row of this cell with these places is the row that both give
row_is : (x : Cell) (h : Held) (r : StockRow) → is_stock_of x r ≡ true → places_said h ≡ places_told r → stock_row_of (x, h) ≡ r
row_is x h r on places = grind (arith, and_parts, eqb-true, bytes_eq-Decides)

pub in_order_strict : (cells : List (Cell × Held)) → are_in_order cells ≡ true
    → IsAscending (λ (r s : StockRow). is_lt (stock_cmp r s) ≡ true) (map stock_row_of cells)
in_order_strict [] e = tt
in_order_strict (c ∷ cells) e =
    let both = and_parts _ _ e in (
      all-map (λ (s : StockRow). is_lt (stock_cmp (stock_row_of c) s) ≡ true) stock_row_of cells
          (all_from _ cells (λ d h. test_has _ cells d both.0 h)),
      in_order_strict cells both.1,
    )

-- a list in order has each cell once
one_of_cell : (cells : List (Cell × Held)) → are_in_order cells ≡ true → (c d : Cell × Held) → Has cells c → Has cells d → c.0 ≡ d.0 → c ≡ d
one_of_cell [] order c d h k e = absurd h
one_of_cell (x ∷ cells) order c d (inl p) (inl q) e = p ∙ sym q
one_of_cell (x ∷ cells) order c d (inl p) (inr k) e =
    absurd (not_before stock_cmp stock_total (stock_row_of c) (ap (λ (y : Cell). is_lt (cell_cmp c.0 y)) e ∙ ap (λ (y : Cell × Held). is_lt (cell_cmp y.0 d.0)) p
    ∙ test_has (λ (y : Cell × Held). is_lt (cell_cmp x.0 y.0)) cells d (and_parts _ _ order).0 k))
one_of_cell (x ∷ cells) order c d (inr h) (inl q) e =
    absurd (not_before stock_cmp stock_total (stock_row_of d) (ap (λ (y : Cell). is_lt (cell_cmp d.0 y)) (sym e) ∙ ap (λ (y : Cell × Held). is_lt (cell_cmp y.0 c.0)) q
    ∙ test_has (λ (y : Cell × Held). is_lt (cell_cmp x.0 y.0)) cells c (and_parts _ _ order).0 h))
one_of_cell (x ∷ cells) order c d (inr h) (inr k) e = one_of_cell cells (and_parts _ _ order).1 c d h k e

-- the test of a cell is reflexive
self_cell : (x : Cell) → is_cell x x ≡ true
self_cell x = grind (arith, and_from, eq-eqb, bytes_eq-Decides)

-- the places that the list has of a cell are those of one of its elements
listed_there : (cells : List (Cell × Held)) (x : Cell) (p : Places) → places_at cells x ≡ Some p
    → (h : Held) × Has cells (x, h) × (places_said h ≡ p)
listed_there cells x p e = go (find (λ (c : Cell × Held). is_cell x c.0) cells) refl
  where
    go : (o : Option (Cell × Held)) → find (λ (c : Cell × Held). is_cell x c.0) cells ≡ o → (h : Held) × Has cells (x, h) × (places_said h ≡ p)
    go None f = let bad : None ≡ Some p = sym (ap (option_map (λ (c : Cell × Held). places_said c.1)) f) ∙ e in absurd (cc)
    go (Some c) f =
        let there = has_found (λ (d : Cell × Held). is_cell x d.0) cells c f in
        (c.1, subst (λ (y : Cell). Has cells (y, c.1)) (sym (is_cell-same x c.0 there.1)) there.0, grind arith)

-- the places of each element are those that a list in order has of its cell
there_listed : (cells : List (Cell × Held)) → are_in_order cells ≡ true → (c : Cell × Held) → Has cells c
    → places_at cells c.0 ≡ Some (places_said c.1)
there_listed cells order c h = go (find (λ (d : Cell × Held). is_cell c.0 d.0) cells) refl
  where
    go : (o : Option (Cell × Held)) → find (λ (d : Cell × Held). is_cell c.0 d.0) cells ≡ o → places_at cells c.0 ≡ Some (places_said c.1)
    go None f =
        let off = all_has _ cells c (find-none (λ (d : Cell × Held). is_cell c.0 d.0) cells f) h in
        let bad : true ≡ false = sym (self_cell c.0) ∙ off in absurd (cc)
    go (Some d) f =
        let there = has_found (λ (e : Cell × Held). is_cell c.0 e.0) cells d f in
        ap (option_map (λ (e : Cell × Held). places_said e.1)) f
        ∙ ap (λ (e : Cell × Held). Some (places_said e.1)) (sym (one_of_cell cells order c d h there.0 (is_cell-same c.0 d.0 there.1)))

module _ (l : List Event) (stock : List StockRow) (stand : StockStands l stock) (cells : List (Cell × Held)) (is : IsStock l cells) where
  pub row_listed : (r : StockRow) → Has stock r → Has (map stock_row_of cells) r
  row_listed r h =
      let known = all_has _ stock r stand.known h in
      let at : places_at cells known.0 ≡ Some (places_told r)
      = is.each known.0 ∙ sym (stand.each known.0) ∙ stock_at-row stock known.0 r stand.once h known.1 in
      let there = listed_there cells known.0 (places_told r) at in
      subst (Has (map stock_row_of cells)) (row_is known.0 there.0 r known.1 there.2) (mapped_has stock_row_of cells (known.0, there.0) there.1)

  pub listed_row : (r : StockRow) → Has (map stock_row_of cells) r → Has stock r
  listed_row r h =
      let c = has_mapped stock_row_of cells r h in
      let at = stand.each c.0.0 ∙ sym (is.each c.0.0) ∙ there_listed cells is.in_order c.0 c.1 in
      let there = row-stock_at stock c.0.0 (places_said c.0.1) at in
      subst (Has stock) (sym (row_is c.0.0 c.0.1 there.0 there.2 (sym there.3)) ∙ sym c.2) there.1

  -- the stock is the one order of the cells
  pub stock_in_order : IsOnlyOrder IsByCell stock (map stock_row_of cells)
  stock_in_order =
      only_compared stock_cmp stock_total stock (map stock_row_of cells) (stock_apart stock stand.once) (in_order_strict cells is.in_order)
      row_listed listed_row

-- Places.

held_made : (a f : ℕ) → f ≤ a → a ≤ most_places → Held
held_made a f within bounded = record { allot = a; free = f; within = within; bounded = bounded }

-- places with the same numbers are equal
held_same : (h k : Held) → h.allot ≡ k.allot → h.free ≡ k.free → h ≡ k
unfolding held_made
held_same h k allot free =
    subst (λ (a : ℕ). (w : h.free ≤ a) (b : a ≤ most_places) → held_made a h.free w b ≡ k) (sym allot)
    (subst (λ (f : ℕ). (w : f ≤ k.allot) (b : k.allot ≤ most_places) → held_made k.allot f w b ≡ k) (sym free)
    (λ w b. ap₂ (λ u v. held_made k.allot k.free u v) (le_prop w k.within) (le_prop b k.bounded)))
    h.within h.bounded

-- a row determines its cell and its places
pub cell_same : (c d : Cell × Held) → stock_row_of c ≡ stock_row_of d → c ≡ d
cell_same c d e =
    let kind : kind_number c.0.kind ≡ kind_number d.0.kind = ap (λ (r : StockRow). r.kind) e in
    let cell : c.0 ≡ d.0 = grind (arith, is_cell-same, and_from, eq-eqb, bytes_eq-Decides) in
    let places : c.1 ≡ d.1 = held_same c.1 d.1 (ap (λ (r : StockRow). r.allot) e) (ap (λ (r : StockRow). r.free) e) in
    ap (λ x. (x, c.1)) cell ∙ ap (λ h. (d.0, h)) places
