use Rattle.std.proofs.Common.{◌+◌, map, take}
use Rattle.plan.specs.PlanModel.{step_said}
use Rattle.plan.specs.PlanLine.{steps_text, Writes}
use Rattle.plan.proofs.printing.push_steps.Given as goal

-- the steps so far are appended to what the line had
abbrev pub invariant-loop-step : goal.invariant-loop-step
invariant-loop-step l = Writes l.fn.line l.line (steps_text (take (l.step-index + 1) (map step_said l.steps)))
