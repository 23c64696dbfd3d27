-- The number that is found is the one that the word spells, and it is within the limits.
use Rattle.std.proofs.Common.{arith, Option, ℕ, ◌≤◌, List, decimal, IfSome}
use Rattle.allotment.specs.Limits.{is_between}
use Rattle.commands.specs.Readings.{Finds}
use Rattle.commands.proofs.NumberLemmas.{between_parts}
use Rattle.commands.proofs.SpelledLemmas.{found_number}
use Rattle.commands.proofs.readings.number_between.Goals as goal

-- a number that is found is at most the upper limit
found_low : (low high : ℕ) (text : List ℕ) (found : Option ℕ)
    → Finds (is_between low high) decimal text found → IfSome found (λ n. n ≤ high)
found_low low high text found none = grind (arith, between_parts)

-- both clauses follow from what the reader finds
pub returns : goal.returns
returns c = grind (arith, found_number, found_low)
