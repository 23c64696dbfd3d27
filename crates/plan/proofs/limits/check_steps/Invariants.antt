use Rattle.std.proofs.Common.{◌≡◌, Ok, map, length, take, IsTrue}
use Rattle.std.specs.List.{list_all}
use Rattle.plan.specs.PlanModel.{step_said, is_step}
use Rattle.plan.specs.Levels.{judged_steps, steps_held}
use Rattle.plan.proofs.limits.check_steps.Given as goal

-- the steps so far keep the limits
abbrev pub invariant-loop-i : goal.invariant-loop-i
invariant-loop-i l = record {
  limits : IsTrue (list_all is_step (map step_said (take l.i l.steps)));
  checked : judged_steps (length l.steps) (steps_held (take l.i l.steps)) ≡ Ok (map step_said (take l.i l.steps));
}
