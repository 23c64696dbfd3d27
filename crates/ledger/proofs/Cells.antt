-- Two cells for which the test passes are equal. For the places of a cell.
use Rattle.std.proofs.Common.{◌≡◌, ℕ, zero, suc, ap, sym, ◌∙◌, eqb-true, true, ◌==◌, arith}
use Rattle.std.proofs.lemmas.Bool.{and_parts}
use Rattle.allotment.specs.Cells.{is_cell, kind_number}
use Rattle.allotment.specs.declared.cells.Cell.{Cell}
use Rattle.allotment.proofs.TestLemmas.{same_bytes}
use Rattle.allotment.specs.declared.codes.Kind.{Kind}
use Rattle.allotment.specs.declared.codes.Kind.TheVariants.{Flight, Room, Transfer, Cover}

-- the kind of a number
pub kind_of : ℕ → Kind
kind_of zero = Flight
kind_of (suc zero) = Room
kind_of (suc (suc zero)) = Transfer
kind_of (suc (suc (suc n))) = Cover

-- each kind is the kind of its number
pub kind_of-number : (k : Kind) → kind_of (kind_number k) ≡ k
unfolding kind_of
kind_of-number k = grind arith

-- kinds with the same number are equal
same_kind : (k m : Kind) → (kind_number k == kind_number m) ≡ true → k ≡ m
same_kind k m e = sym (kind_of-number k) ∙ ap kind_of (eqb-true _ _ e) ∙ kind_of-number m

-- cells with the same kind, supplier, product and night are equal
pub is_cell-same : (x y : Cell) → is_cell x y ≡ true → x ≡ y
is_cell-same x y e =
    grind (arith, and_parts, same_kind x.kind y.kind, same_bytes x.supplier y.supplier, same_bytes x.product y.product, eqb-true)
