use Rattle.std.proofs.Common.{◌≡◌, Ok, map, length, take}
use Rattle.plan.specs.PlanModel.{step_said}
use Rattle.plan.specs.Levels.{judged_steps, steps_shown}
use Rattle.plan.proofs.json.steps_of.Given as goal

-- the steps so far are what is read of the values so far
abbrev pub invariant-loop-i : goal.invariant-loop-i
invariant-loop-i l = judged_steps (length l.values) (steps_shown (take l.i l.values)) ≡ Ok (map step_said l.steps.items)
