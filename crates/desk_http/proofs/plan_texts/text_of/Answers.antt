-- a text is read as itself
use Rattle.json.specs.Value.{value_view}
use Rattle.desk_http.proofs.PlanTextLemmas.{text_found}
use Rattle.desk_http.proofs.plan_texts.text_of.Goals as goal

pub returns : goal.returns
returns c = record { text = text_found (value_view c.args.value.now) c.in_ok-as_str.field-0.now c.in_ok-as_str.ensures }
