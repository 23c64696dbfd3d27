use Rattle.std.proofs.Common.{map, take}
use Rattle.plan.specs.PlanData.{step_data}
use Rattle.plan.specs.PlanModel.{step_said}
use Rattle.desk_http.specs.PlanTexts.{AreData}
use Rattle.desk_http.proofs.plan_texts.steps_of.Given as goal

-- the values so far are read
abbrev pub invariant-loop-value : goal.invariant-loop-value
invariant-loop-value l = AreData (take l.value-index l.values) (map (λ step. step_data (step_said step)) l.steps.items)
