-- A request is one for the page where its target is that of the page.
use Rattle.std.proofs.Common.{◌∙◌, sym}
use Rattle.desk_http.proofs.demands.demand_at_page.Goals as goal

-- it asks for the page
pub returns-then-asks_for_page : goal.returns-then-asks_for_page
returns-then-asks_for_page c = record {
  demand = λ parts body is.
      rw (sym (c.asks_for_page.ensures.page parts body is) ∙ c.if-asks_for_page.true) (c.page_demand.ensures.demand parts body is);
}

-- it asks for something else
pub returns-else-asks_for_page : goal.returns-else-asks_for_page
returns-else-asks_for_page c = record {
  demand = λ parts body is.
      rw (sym (c.asks_for_page.ensures.page parts body is) ∙ c.if-asks_for_page.false) (c.agents_demand.ensures.demand parts body is);
}
