-- The greatest of the numbers that pass, as a walk over them in order finds it. For last_save.
use Rattle.std.proofs.Common.{◌≡◌, ℕ, zero, suc, ◌+◌, ◌≤◌, ◌<◌, ◌==◌, ◌||◌, Bool, true, false, IsTrue, refl, arith}
use Rattle.std.specs.List.{filter}
use Rattle.std.proofs.lemmas.Bool.Decides.{nat_tests}
use Rattle.allotment.specs.Cells.{numbers_from}
use Rattle.plan.specs.Rules.{greatest}

-- the last of the numbers up to n that passes, or 0 where none passes
pub record IsLastTo (passes : ℕ → Bool) (n last : ℕ) : Type 0 where
  pub lands : IsTrue ((last == 0) || passes last)
  pub within : last ≤ n
  pub none_above : (q : ℕ) → q ≤ n → IsTrue (passes q) → q ≤ last

-- before the first number none passes
pub IsLastTo-none : (passes : ℕ → Bool) → IsLastTo passes 0 0
IsLastTo-none passes = record { lands = refl; within = omega arith; none_above = λ q low passed. low }

-- one more number is the last one where it passes
pub IsLastTo-here : (passes : ℕ → Bool) (n last : ℕ) → IsLastTo passes n last → passes (n + 1) ≡ true → IsLastTo passes (n + 1) (n + 1)
IsLastTo-here passes n last so_far passed = record { lands = grind arith; within = omega arith; none_above = λ q low _. low }

-- and leaves it the same where it does not
pub IsLastTo-past : (passes : ℕ → Bool) (n last : ℕ) → IsLastTo passes n last → passes (n + 1) ≡ false → IsLastTo passes (n + 1) last
IsLastTo-past passes n last so_far failed = record {
  lands = so_far.lands;
  within = omega (arith, so_far.within);
  none_above = λ q low passed. grind (arith, so_far.none_above q);
}

-- where all that pass are at most this number, so is the greatest
greatest_at_most : (passes : ℕ → Bool) (first more last : ℕ)
    → ((q : ℕ) → q < first + more → IsTrue (passes q) → q ≤ last) → greatest (filter passes (numbers_from first more)) ≤ last
greatest_at_most passes first zero last none = omega arith
greatest_at_most passes first (suc more) last none =
    let later = greatest_at_most passes (first + 1) more last (λ q low. none q (omega arith)) in
    grind (arith, none first, later)

-- a number of the row that passes is at most the greatest
at_most_greatest : (passes : ℕ → Bool) (first more p : ℕ) → first ≤ p → p < first + more → passes p ≡ true
    → p ≤ greatest (filter passes (numbers_from first more))
at_most_greatest passes first zero p low high passed = absurd (omega arith)
at_most_greatest passes first (suc more) p low high passed = grind (arith, at_most_greatest passes (first + 1) more p)

-- the last number that passes is the greatest
pub greatest-last : (passes : ℕ → Bool) (n last : ℕ) → IsLastTo passes n last → last ≡ greatest (filter passes (numbers_from 1 n))
greatest-last passes n last is =
    grind (arith, nat_tests, greatest_at_most passes 1 n last (λ q low. is.none_above q (omega arith)), at_most_greatest passes 1 n last, is.lands, is.within)
