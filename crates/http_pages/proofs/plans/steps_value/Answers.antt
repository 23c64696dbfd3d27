-- The values are those of the steps so far, and at the end those of all steps.
use Rattle.std.proofs.Common.{ap, ◌∙◌, map, add-one, arith}
use Rattle.serde_json.specs.View.{view}
use Rattle.serde_json.proofs.Views.{view-Array}
use Rattle.http_pages.specs.Bodies.{list}
use Rattle.plan.specs.PlanData.{step_data}
use Rattle.plan.specs.PlanModel.{numbered}
use Rattle.http_pages.proofs.PlanLemmas.{next_value}
use Rattle.http_pages.proofs.plans.steps_value.Goals as goal
use lib.Seq.{take_all}

-- one more step has its value
pub loop-step-preserved : goal.loop-step-preserved
loop-step-preserved c =
    let n = c.loop-step.step in
    let steps = c.args.plan.now.steps in
    record {
      bound = c.loop-step.invariant.bound;
      values = next_value view step_data steps n c.loop-step.values.items c.push.new.self.items c.in_ok-step_value.field-0
          (omega arith) (λ s e. c.in_ok-step_value.ensures.value s (ap (numbered steps) (add-one n) ∙ e))
          c.in_ok-push.ensures.items c.loop-step.invariant.values;
    }

-- all steps have their values
pub returns : goal.returns
returns c =
    let n = c.loop-step.step in
    let steps = c.args.plan.now.steps in
    let all = c.loop-step.invariant.values ∙ ap (map step_data) (take_all n steps (omega arith)) in
    record { value = view-Array c.loop-step.values ∙ ap (λ ds. list ds) all }
