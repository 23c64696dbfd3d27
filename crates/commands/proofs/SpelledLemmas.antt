-- Which number within limits a text spells, as the reader of numbers finds it. For number_between.
use Rattle.std.proofs.Common.{◌≡◌, refl, ℕ, ◌<◌, ◌^◌, List, arith, Option, Some, None, decimal, option_and_then, IsTrue}
use Rattle.std.proofs.lemmas.Bool.{false_from_ne_true}
use Rattle.allotment.specs.Limits.{is_between}
use Rattle.allotment.specs.Texts.{keep_if, number_from, number_in}
use Rattle.allotment.proofs.TestLemmas.{keep_if_yes, same_bytes}
use Rattle.commands.specs.Readings.{Finds}
use Rattle.commands.proofs.NumberLemmas.{between_parts}
use Rattle.plan.proofs.NumberLemmas.{number_again}

-- a text that spells no number within the limits has none
none_within : (low high : ℕ) (text : List ℕ) (o : Option ℕ)
    → number_in text ≡ o
    → ((n : ℕ) → IsTrue (is_between low high n) → text ≡ decimal n → ⊥)
    → option_and_then (keep_if (is_between low high)) o ≡ None
none_within low high text None is none = refl
none_within low high text (Some n) is none =
    grind (arith, same_bytes (decimal n) text, false_from_ne_true (is_between low high n))

-- the number that the reader finds is the one that the text spells
pub found_number : (low high : ℕ) (text : List ℕ) (found : Option ℕ) → high < 2 ^ 64
    → Finds (is_between low high) decimal text found → found ≡ number_from low high text
found_number low high text found small none = grind (arith, none_within, between_parts, number_again, keep_if_yes)
