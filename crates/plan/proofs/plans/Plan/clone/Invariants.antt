use Rattle.std.proofs.Common.{◌≡◌, map, take}
use Rattle.plan.specs.PlanModel.{step_said}
use Rattle.plan.proofs.plans.Plan.clone.Given as goal

-- the copies say what the steps so far say
abbrev pub invariant-loop-step : goal.invariant-loop-step
invariant-loop-step l = map step_said l.steps.items ≡ map step_said (take l.step-index l.step-items)
