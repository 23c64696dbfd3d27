-- A GET asks for the report of its target.
use Rattle.std.proofs.Common.{◌∙◌, sym}
use Rattle.desk_http.proofs.demands.report_demand.Goals as goal

pub returns-then-is_get : goal.returns-then-is_get
returns-then-is_get c = record {
  demand = λ parts body is. rw (sym (c.is_get.ensures.get parts body is) ∙ c.if-is_get.true) (c.asked_report.ensures.demand parts body is);
}
