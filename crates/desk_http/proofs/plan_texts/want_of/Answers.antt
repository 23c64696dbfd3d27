-- the members are the parts, of which the want is made
use Rattle.std.proofs.Common.{◌∙◌, ap}
use Rattle.json.specs.Value.{value_view}
use Rattle.serde_json.specs.Read.{of_json}
use Rattle.plan.specs.PlanData.{want_data}
use Rattle.desk_http.specs.PlanTexts.{parts_data}
use Rattle.desk_http.proofs.PlanTextLemmas.{object_is, some_weaker}
use Rattle.desk_http.proofs.plan_texts.want_of.Goals as goal

pub returns : goal.returns
returns c = record {
  want = some_weaker c.want.result _ _
      (λ want is. ap (λ v. of_json (value_view v)) c.in-Object.is
      ∙ object_is c.in-Object.members c.as_slice.result.now (parts_data c.in_ok-parts_of.field-0) (want_data want)
      c.as_slice.ensures.value c.in_ok-parts_of.ensures.parts is)
      c.want.ensures.want;
}
