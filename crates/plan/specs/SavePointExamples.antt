-- Worked examples of save-points: what the definitions say of a plan of three flights. A definition with one more
-- premise, which these save-points do not meet, is refused here.
use Rattle.std.specs.Prelude.{◌≡◌, ℕ, true, false, List, [], ◌∷◌, codes, refl}
use Rattle.std.specs.FinSet as set
use Rattle.std.specs.Ordering.{nat_cmp}
use Rattle.std.proofs.Common.{◌≤◌, arith}
use Rattle.allotment.specs.Want.{Wanted, wanted}
use Rattle.allotment.specs.declared.codes.Kind.TheVariants.{Flight}
use Rattle.plan.specs.PlanModel.{Planned}
use Rattle.plan.specs.Marks.{AreInRange, is_taken_in}
use Rattle.plan.specs.Turns.{IsNoneAbove}

-- a flight, on 2030-06-01
abbrev pub flight : List Wanted
flight = wanted Flight (codes "AL") (codes "A1") 22066 1 1 ∷ []

-- three flights, with a save-point after the second
abbrev pub three_flights : Planned
three_flights = record {
  steps = record { options = flight; is_marked = false } ∷ record { options = flight; is_marked = true }
      ∷ record { options = flight; is_marked = false } ∷ [];
  tries = 0;
}

-- save-points in range: none was taken at the start
pub none_is_at_the_start : (marks : set.FinSet nat_cmp) → AreInRange marks → is_taken_in marks 0 ≡ false
none_is_at_the_start marks in_range =
    elim (is_taken_in marks 0) as (λ b. is_taken_in marks 0 ≡ b → b ≡ false) [
      | true ↦ λ taken. let no : false ≡ true = in_range 0 taken in cc
      | false ↦ λ _. refl
    ] refl

-- the mark of the second step stands at position 2, so no number below 2 has none above it
pub second_step_is_marked :
    (marks : set.FinSet nat_cmp) (last : ℕ) → IsNoneAbove three_flights marks 2 last → 2 ≤ last
second_step_is_marked marks last none = none 2 (omega arith) refl
