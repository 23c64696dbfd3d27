use Rattle.std.proofs.Common.{◌≡◌, ◌++◌, ◌∷◌, [], arith, rules}
use Rattle.plan.specs.PlanData.{step_data}
use Rattle.plan.specs.PlanModel.{step_said}
use Rattle.desk_http.proofs.PlanTextLemmas.{one_more}
use Rattle.desk_http.proofs.plan_texts.steps_of.Goals as goal

-- one more value is read
pub loop-value-preserved : goal.loop-value-preserved
loop-value-preserved c =
    let pushed : c.push.new.self.items ≡ c.loop-value.steps.items ++ c.in_ok-step.step ∷ [] = search rules in
    one_more (λ step. step_data (step_said step)) c.args.values.now c.loop-value.value-index c.value-item.result c.loop-value.steps.items
    c.push.new.self.items c.in_ok-step.step (omega (arith, c.loop-value-test.true)) c.value-item.is c.in_ok-step.ensures.step pushed
    c.loop-value.invariant
