-- A request is the house's where it names nobody.
use Rattle.std.proofs.Common.{◌∙◌, sym}
use Rattle.desk_http.proofs.demands.demand_at_house.Goals as goal

-- it names nobody
pub returns-then-request : goal.returns-then-request
returns-then-request c = record {
  demand = λ parts body is. rw (sym is.is_unnamed ∙ c.if-request.true) (c.house_demand.ensures.demand parts body is);
}

-- it names an agent, or tries to
pub returns-else-request : goal.returns-else-request
returns-else-request c = record {
  demand = λ parts body is. rw (sym is.is_unnamed ∙ c.if-request.false) (c.agents_demand.ensures.demand parts body is);
}
