-- What cuts give of a text.
use Rattle.std.proofs.Common.{◌≡◌, ℕ, ◌<◌, ◌≤◌, ◌==◌, Bool, List, [], ◌∷◌, length, arith, Option, MatchOption, Bor}
use Rattle.std.specs.List.{position_or_len, before_first, after_first, slice_split}
use Rattle.std.proofs.lemmas.List.Sums.{fails_before_first}
use Rattle.std.proofs.lemmas.List.Splits.{slice_split_none, slice_split_first, length-slice_split}
use Rattle.std.proofs.lemmas.Str.Pattern.{IsSplitOnceResult, split_once_first}
use Rattle.allotment.specs.Texts.{parts}

-- where no byte passes, the text is its own one part
whole_part : (p : ℕ → Bool) (text : List ℕ) → position_or_len p text ≡ length text → slice_split p text ≡ text ∷ []
whole_part p text none = grind (arith, slice_split_none, fails_before_first)

-- the first byte that passes ends the first part; the other parts are the parts of the text after it
cut_by_first : (c : ℕ) (text : List ℕ) (r : Option (Bor (List ℕ) × Bor (List ℕ)))
    → MatchOption r (position_or_len (λ b. b == c) text ≡ length text)
    (λ x. (position_or_len (λ b. b == c) text < length text)
    × (x.0.now ≡ before_first (λ b. b == c) text) × (x.1.now ≡ after_first (λ b. b == c) text))
    → MatchOption r (parts c text ≡ text ∷ []) (λ x. parts c text ≡ x.0.now ∷ parts c x.1.now)
cut_by_first c text r h = grind (arith, whole_part, slice_split_first)

-- the same of `split_once` at an ASCII character
pub cut_parts : (c : ℕ) (text : List ℕ) (r : Option (Bor (List ℕ) × Bor (List ℕ)))
    → IsSplitOnceResult c text r → c < 128
    → MatchOption r (parts c text ≡ text ∷ []) (λ x. parts c text ≡ x.0.now ∷ parts c x.1.now)
cut_parts c text r h small = cut_by_first c text r (split_once_first c text r h small)

-- a text has at least one part
pub some_part : (c : ℕ) (text : List ℕ) → 1 ≤ length (parts c text)
some_part c text = omega (arith, length-slice_split (λ b. b == c) text)
