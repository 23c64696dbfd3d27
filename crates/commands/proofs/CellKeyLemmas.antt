-- Cells as keys: two keys compare as equal exactly if the cells are equal. For repeats, and for the maps of a book in
-- memory.
use Rattle.std.proofs.Common.{rules, ◌≡◌, ℕ, Bool, List, ap, sym, ◌∙◌, ◌==◌, ◌&&◌, bytes_eq, arith}
use Rattle.std.specs.Ordering.{is_eq, nat_cmp, ordering_then}
use Rattle.std.specs.declared.cmp.Ordering.{Ordering}
use Rattle.std.specs.Cmp.{IsTotalOrder, unsigned_ties, nat_eq_equiv}
use Rattle.std.specs.Cmp.Rules.{comparing}
use Rattle.std.specs.Cmp.Lexicographic.{slice_cmp, texts_ties, nat_list_eq_equiv}
use Rattle.allotment.specs.Cells.{is_cell, kind_number}
use Rattle.allotment.specs.declared.cells.Cell.{Cell}
use Rattle.commands.specs.CellKeys.{cell_key_cmp}
use Rattle.commands.specs.declared.batches.CellKey.{CellKey}

-- a cell as a key
abbrev pub key_of : Cell → CellKey
key_of x = record { cell = x }

-- the order of keys is total
pub cell_key_total : IsTotalOrder cell_key_cmp
cell_key_total = Prim.search (comparing, rules)

-- two comparisons, one after the other, find equality where both do
pub is_eq-then : (a b : Ordering) → is_eq (ordering_then a b) ≡ (is_eq a && is_eq b)
is_eq-then a b = grind arith

-- three tests may be joined from either end
and_three : (a b c : Bool) → (a && (b && c)) ≡ ((a && b) && c)
and_three a b c = grind arith

-- four tests may be joined from either end
and_four : (a b c d : Bool) → (a && (b && (c && d))) ≡ (((a && b) && c) && d)
and_four a b c d = grind (arith, and_three)

-- four comparisons, one after another, find equality where all do
is_eq-four : (a b c d : Ordering)
    → is_eq (ordering_then a (ordering_then b (ordering_then c d)))
    ≡ (((is_eq a && is_eq b) && is_eq c) && is_eq d)
is_eq-four a b c d = grind (arith, is_eq-then, and_four)

-- texts that compare as equal are equal
pub is_eq-texts : (a b : List ℕ) → is_eq (slice_cmp nat_cmp a b) ≡ bytes_eq a b
is_eq-texts a b = sym (texts_ties a b)

-- numbers that compare as equal are equal
is_eq-numbers : (a b : ℕ) → is_eq (nat_cmp a b) ≡ (a == b)
is_eq-numbers a b = sym (unsigned_ties a b)

-- two keys compare as equal exactly if the cells are equal
pub is_eq-cells : (k x : Cell) → is_eq (cell_key_cmp (key_of k) (key_of x)) ≡ is_cell k x
is_eq-cells k x = grind (arith, is_eq-four, is_eq-numbers, is_eq-texts)

-- the comparison of cells is symmetric
pub is_cell-swap : (x y : Cell) → is_cell x y ≡ is_cell y x
is_cell-swap x y =
    let supplier = nat_list_eq_equiv.symm x.supplier y.supplier in
    let product = nat_list_eq_equiv.symm x.product y.product in
    let night = nat_eq_equiv.symm x.night y.night in
    ap (λ t. ((t && bytes_eq x.supplier y.supplier) && bytes_eq x.product y.product)
    && (x.night == y.night)) (nat_eq_equiv.symm (kind_number x.kind) (kind_number y.kind))
    ∙ ap (λ t. (((kind_number y.kind == kind_number x.kind) && t) && bytes_eq x.product y.product)
    && (x.night == y.night)) supplier
    ∙ ap (λ t. (((kind_number y.kind == kind_number x.kind) && bytes_eq y.supplier x.supplier) && t)
    && (x.night == y.night)) product
    ∙ ap (λ t. (((kind_number y.kind == kind_number x.kind) && bytes_eq y.supplier x.supplier)
    && bytes_eq y.product x.product) && t) night
