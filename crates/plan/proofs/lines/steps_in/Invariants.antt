use Rattle.std.proofs.Common.{◌≡◌, Ok, Some, map, length}
use Rattle.plan.specs.PlanModel.{step_said}
use Rattle.plan.specs.PlanLine.{step_draft}
use Rattle.plan.specs.Levels.{judged_steps}
use Rattle.plan.proofs.lines.steps_in.Given as goal

-- the steps so far are as many as the parts so far, and what is read of them
abbrev pub invariant-loop-part : goal.invariant-loop-part
invariant-loop-part l = record {
  many : length l.steps.items ≡ length l.yielded;
  read : judged_steps l.last (map (λ step. Some (step_draft step)) (map (λ part. part.now) l.yielded)) ≡ Ok (map step_said l.steps.items);
}
