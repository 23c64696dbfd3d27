-- How a cell is read from its parts.
use Rattle.std.proofs.Common.{◌≡◌, ℕ, ◌≤◌, true, List, [], ◌∷◌, length, arith, Option, Some, None, MatchOption, is_some, Bor}
use Rattle.std.specs.Option.{ok_or}
use Rattle.std.specs.Result.{result_ok}
use Rattle.allotment.specs.Limits.{is_code}
use Rattle.allotment.specs.Texts.{parts, slash, keep_if, cell_from, cell_of_parts, cell_in}
use Rattle.allotment.specs.declared.codes.Kind.{Kind}
use Rattle.allotment.specs.declared.wants.Bad.{Bad}
use Rattle.allotment.proofs.TestLemmas.{and_both, fails_too, keep_if_no, keep_if_none}
use Rattle.allotment.proofs.CutLemmas.{some_part}

-- Four parts.

-- a cell has no fifth part
fifth : (kind supplier product night : List ℕ) (more : List (List ℕ)) → 1 ≤ length more
    → cell_of_parts (kind ∷ supplier ∷ product ∷ night ∷ more) ≡ None
fifth kind supplier product night more some = grind arith

module _ (text kind supplier product behind_kind behind_supplier night : List ℕ)
    (first : parts slash text ≡ kind ∷ parts slash behind_kind)
    (second : parts slash behind_kind ≡ supplier ∷ parts slash behind_supplier)
    (third : parts slash behind_supplier ≡ product ∷ parts slash night) where
  -- three cuts give three parts, and those of what is left
  three_parts : parts slash text ≡ kind ∷ supplier ∷ product ∷ parts slash night
  three_parts = cc

  -- a text that can be cut a fourth time is no cell
  pub cell_in-five_parts : (r : Option (Bor (List ℕ) × Bor (List ℕ)))
      → MatchOption r (parts slash night ≡ night ∷ []) (λ x. parts slash night ≡ x.0.now ∷ parts slash x.1.now)
      → is_some r ≡ true → cell_in text ≡ None
  cell_in-five_parts r h some = grind (arith, three_parts, fifth, some_part)

-- What the parts are.

-- a supplier that is no code makes no cell
pub cell_from-no_supplier : (kind : Option Kind) (supplier product : List ℕ) (night : Option ℕ)
    → keep_if is_code supplier ≡ None → cell_from kind supplier product night ≡ None
cell_from-no_supplier kind supplier product night e = grind (arith, keep_if_no, fails_too, and_both, keep_if_none)

-- a product that is no code makes no cell
pub cell_from-no_product : (kind : Option Kind) (supplier product : List ℕ) (night : Option ℕ)
    → keep_if is_code product ≡ None → cell_from kind supplier product night ≡ None
cell_from-no_product kind supplier product night e = grind (arith, keep_if_no, fails_too, and_both, keep_if_none)

-- where no night was read, there is none
pub night_unread : (o : Option ℕ) (fault : Bad) → None ≡ result_ok (ok_or o fault) → o ≡ None
night_unread o fault e = grind arith

-- the night that was read is the text's
pub night_is_read : (o : Option ℕ) (night : ℕ) (fault : Bad) → Some night ≡ result_ok (ok_or o fault) → o ≡ Some night
night_is_read o night fault e = grind arith

-- without a night there is no cell
pub cell_from-no_night : (kind : Option Kind) (supplier product : List ℕ) → cell_from kind supplier product None ≡ None
cell_from-no_night kind supplier product = grind arith
