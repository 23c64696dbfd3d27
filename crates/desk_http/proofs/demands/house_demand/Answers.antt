-- A request of the house is for a stop, for the metrics, for a report, or for what agents ask for too.
use Rattle.std.proofs.Common.{◌∙◌, refl, subst, sym, false}
use Rattle.desk_http.specs.DemandValues.{Demands}
use Rattle.desk_http.proofs.DemandLemmas.{house_if}
use Rattle.desk_http.proofs.demands.house_demand.Goals as goal

-- that the desk stops
pub returns-then-asks_to_stop : goal.returns-then-asks_to_stop
returns-then-asks_to_stop c = record {
  demand = λ parts body is. rw (sym (c.asks_to_stop.ensures.stop parts body is) ∙ c.if-asks_to_stop.true) refl;
}

-- the metrics
pub returns-then-asks_for_metrics : goal.returns-then-asks_for_metrics
returns-then-asks_for_metrics c = record {
  demand = λ parts body is.
      rw (
        sym (c.asks_to_stop.ensures.stop parts body is) ∙ c.if-asks_to_stop.false,
        sym (c.asks_for_metrics.ensures.metrics parts body is) ∙ c.if-asks_for_metrics.true,
      ) refl;
}

-- a report
pub returns-then-is_for_report : goal.returns-then-is_for_report
returns-then-is_for_report c = record {
  demand = λ parts body is.
      rw (
        sym (c.asks_to_stop.ensures.stop parts body is) ∙ c.if-asks_to_stop.false,
        sym (c.asks_for_metrics.ensures.metrics parts body is) ∙ c.if-asks_for_metrics.false,
      )
      (subst (λ reports. Demands (house_if false false reports parts body) c.report_demand.result)
      (sym c.if-is_for_report.true ∙ c.is_for_report.ensures.report parts body is) (c.report_demand.ensures.demand parts body is));
}

-- what agents ask for too
pub returns : goal.returns
returns c = record {
  demand = λ parts body is.
      rw (
        sym (c.asks_to_stop.ensures.stop parts body is) ∙ c.if-asks_to_stop.false,
        sym (c.asks_for_metrics.ensures.metrics parts body is) ∙ c.if-asks_for_metrics.false,
        sym (c.is_for_report.ensures.report parts body is) ∙ c.if-is_for_report.false,
      ) (c.asked_of_house.ensures.demand parts body is);
}
