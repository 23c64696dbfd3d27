-- Each step of a plan has an option. For option_at.
use Rattle.std.proofs.Common.{ℕ, zero, suc, ◌≤◌, IsTrue, arith}
use Rattle.plan.specs.PlanModel.{Planned, is_plan, step_count, option_count}
use Rattle.plan.proofs.LimitLemmas.{limited, options_within}

-- each step of a plan has an option
pub one_le-option_count : (plan : Planned) (i : ℕ) → IsTrue (is_plan plan) → 1 ≤ i → i ≤ step_count plan → 1 ≤ option_count plan i
one_le-option_count plan zero good low high = absurd (omega arith)
one_le-option_count plan (suc i) good low high = (options_within plan.steps i (limited plan good).each_step).1 (omega arith)
