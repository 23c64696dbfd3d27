-- the plan is its two members
use Rattle.std.proofs.Common.{◌∙◌, Some, ap, map, sym}
use Rattle.json.specs.Value.{value_view}
use Rattle.serde_json.specs.Data.{array}
use Rattle.serde_json.specs.Read.{of_json}
use Rattle.serde_json.specs.View.{items_of}
use Rattle.plan.specs.PlanData.{plan_data, step_data}
use Rattle.plan.specs.PlanModel.{step_said}
use Rattle.desk_http.proofs.PlanTextLemmas.{array_is, steps_said}
use Rattle.desk_http.proofs.plan_texts.plan_of.Goals as goal

pub returns : goal.returns
returns c =
    let steps = c.in_ok-steps-2.steps.items in
    record {
      plan = record {
        keeps_limits = c.steps-steps.ensures.limits;
        spelled = c.in_ok-steps.ensures.pair _ _
            (ap (λ v. of_json (value_view v)) c.in-Array.is
            ∙ array_is c.in-Array.steps c.as_slice.result.now (map (λ step. step_data (step_said step)) steps)
            c.as_slice.ensures.value c.in_ok-steps-2.ensures.steps
            ∙ ap (λ z. Some (array (items_of z))) (steps_said steps))
            c.in_ok-tries.ensures.number
            ∙ ap (λ p. Some (plan_data p)) (sym c.in-Ok.ensures.same);
      };
    }
