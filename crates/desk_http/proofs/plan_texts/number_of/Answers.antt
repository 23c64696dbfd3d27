use Rattle.json.specs.Value.{value_view}
use Rattle.desk_http.proofs.PlanTextLemmas.{number_found}
use Rattle.desk_http.proofs.plan_texts.number_of.Goals as goal

pub returns : goal.returns
returns c = record {
  number = number_found (value_view c.args.value.now) c.in_ok-as_number.field-0.now c.number_in.result c.in_ok-as_number.ensures
      c.number_in.ensures.found;
}
