-- A denied request changes nothing, and any other one gets the outcome of its demand.
use Rattle.std.proofs.Common.{◌∙◌, sym, subst, Err}
use Rattle.desk_http.specs.Demands.{demand_of}
use Rattle.desk_http.specs.DemandValues.{Demands, demand_said}
use Rattle.desk_http.proofs.AnswerLemmas.{denied_tells, met_tells}
use Rattle.desk_http.proofs.DemandLemmas.{denied_asks_nothing, metrics_asked}
use Rattle.desk_http.proofs.answering.page_of.Goals as goal

pub returns-in_ok-denied_page-in-Err-Refused-clause-tells : goal.returns-in_ok-denied_page-in-Err-Refused-clause-tells
returns-in_ok-denied_page-in-Err-Refused-clause-tells g c = λ parts body is at.
    denied_tells c.args.door parts body c.in-Err-Refused.denied _ (sym at ∙ c.in_default.is)
    (subst (λ unmet. Demands (demand_of c.args.door parts body) (Err unmet)) c.in-Err-Refused.field-0-is (c.in-Err-Refused.ensures.demand parts body is))
    c.in_ok-denied_page-in-Err-Refused.ensures.page

pub returns-in-Ok-clause-tells : goal.returns-in-Ok-clause-tells
returns-in-Ok-clause-tells g c = λ parts body is at.
    met_tells c.args.door parts body (demand_said c.in-Ok.demand) (sym at ∙ c.in_default.is) (c.in-Ok.ensures.demand parts body is)
    c.meet.ensures.meets

-- a denied request does not ask for metrics
pub returns-in_ok-denied_page-in-Err-Refused-clause-counted : goal.returns-in_ok-denied_page-in-Err-Refused-clause-counted
returns-in_ok-denied_page-in-Err-Refused-clause-counted g c = λ parts body is none asks.
    absurd (denied_asks_nothing (demand_of c.args.door parts body) c.in-Err-Refused.denied
    (subst (λ unmet. Demands (demand_of c.args.door parts body) (Err unmet)) c.in-Err-Refused.field-0-is (c.in-Err-Refused.ensures.demand parts body is)) asks)

-- one that asks for them is met by them
pub returns-in-Ok-clause-counted : goal.returns-in-Ok-clause-counted
returns-in-Ok-clause-counted g c = λ parts body is none asks.
    c.meet.ensures.counted (metrics_asked (demand_of c.args.door parts body) c.in-Ok.demand (c.in-Ok.ensures.demand parts body is) asks)
