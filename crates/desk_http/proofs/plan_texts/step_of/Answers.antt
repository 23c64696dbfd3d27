-- the step is its two members
use Rattle.std.proofs.Common.{◌∙◌, ap, map}
use Rattle.json.specs.Value.{value_view}
use Rattle.serde_json.specs.Read.{of_json}
use Rattle.plan.specs.PlanData.{want_data}
use Rattle.desk_http.proofs.PlanTextLemmas.{answer_found, array_is}
use Rattle.desk_http.proofs.plan_texts.step_of.Goals as goal

pub returns : goal.returns
returns c = record {
  step = c.in_ok-options.ensures.pair _ _
      (ap (λ v. of_json (value_view v)) c.in-Array.is
      ∙ array_is c.in-Array.options c.as_slice.result.now (map want_data c.in_ok-options-2.options.items) c.as_slice.ensures.value
      c.in_ok-options-2.ensures.wants)
      (answer_found (value_view c.in_ok-options.save.now) c.in_ok-save.save c.in_ok-save.ensures);
}
