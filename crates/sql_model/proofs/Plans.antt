-- The wants of a plan that keeps the limits keep the limits of wants. For Moves.
use Rattle.std.proofs.Common.{◌≡◌, ℕ, zero, suc, ◌≤◌, List, length, true, Option, Some, None, IsTrue, refl, arith, nat_le, option_and_then, option_map, unwrap_or, rules}
use Rattle.std.proofs.lemmas.Bool.{and_parts, leb-true}
use Rattle.plan.proofs.LimitLemmas.{limited, step_limited}
use Rattle.allotment.specs.Want.{Wanted}
use Rattle.allotment.specs.Limits.{is_between, is_want, most_count}
use Rattle.plan.specs.PlanModel.{Planned, StepPlan, numbered, want_at, is_step, is_plan, option_count}
use Rattle.ledger.specs.Ledger.{Event, Journey, journey_at, IsLegal}
use Rattle.sql_model.proofs.Numbering.{there_is, numbered-passes}
use Rattle.sql_model.proofs.RecordRows.{plan_good}

-- a want of a good plan keeps its limits
pub want_good : (plan : Planned) (i c : ℕ) (w : Wanted) → IsTrue (is_plan plan)
    → want_at plan i c ≡ Some w → is_want w ≡ true
want_good plan i c w good want =
    go (numbered plan.steps i) (λ s e. numbered-passes is_step plan.steps i s e (limited plan good).each_step) want
  where
    go : (o : Option StepPlan) → ((s : StepPlan) → o ≡ Some s → is_step s ≡ true)
        → option_and_then (λ (s : StepPlan). numbered s.options c) o ≡ Some w → is_want w ≡ true
    go None each e = cc
    go (Some s) each e = numbered-passes is_want s.options c w e (step_limited s (each s refl)).each_want

-- a good want has at least one night
pub want-nights : (w : Wanted) → is_want w ≡ true → 1 ≤ w.nights
want-nights w good = search (rules, arith, and_parts, leb-true)

-- each want of a journey of a legal ledger has at least one night
pub wanted_nights : (l : List Event) (j i c : ℕ) (a : Journey) (w : Wanted) → IsLegal l
    → journey_at l j ≡ Some a → want_at a.plan i c ≡ Some w → 1 ≤ w.nights
wanted_nights l j i c a w legal at want = search (rules, arith, want-nights, want_good, plan_good)

-- a good want keeps the limit of places a night
pub want-count : (w : Wanted) → is_want w ≡ true → w.count ≤ most_count
want-count w good = search (rules, arith, and_parts, leb-true)

-- each want of a journey of a legal ledger keeps the limit of places a night
pub wanted_count : (l : List Event) (j i c : ℕ) (a : Journey) (w : Wanted) → IsLegal l
    → journey_at l j ≡ Some a → want_at a.plan i c ≡ Some w → w.count ≤ most_count
wanted_count l j i c a w legal at want = search (rules, arith, want-count, want_good, plan_good)

-- an option that a step has is a want of the plan
pub option_wanted : (plan : Planned) (i c : ℕ) → is_between 1 (option_count plan i) c ≡ true
    → (w : Wanted) × (want_at plan i c ≡ Some w)
option_wanted plan i zero within = cc
option_wanted plan i (suc k) within = go (numbered plan.steps i) refl within
  where
    go : (o : Option StepPlan) → numbered plan.steps i ≡ o
        → is_between 1 (unwrap_or (option_map (λ (s : StepPlan). length s.options) o) 0) (suc k) ≡ true
        → (w : Wanted) × (option_and_then (λ (s : StepPlan). numbered s.options (suc k)) o ≡ Some w)
    go None e b = absurd (omega (arith, leb-true (suc k) 0 (and_parts (nat_le 1 (suc k)) (nat_le (suc k) 0) b).1))
    go (Some s) e b =
        let high = leb-true (suc k) (length s.options) (and_parts (nat_le 1 (suc k)) (nat_le (suc k) (length s.options)) b).1 in
        there_is s.options k (omega arith)
