-- The target of the request is that of its parts.
use Rattle.std.proofs.Common.{◌∙◌, ap, sym}
use Rattle.report_words.specs.Targets.{report_asked}
use Rattle.desk_http.specs.Demands.{asked_report}
use Rattle.desk_http.proofs.DemandLemmas.{none_asked}
use Rattle.desk_http.proofs.demands.asked_report.Goals as goal

pub returns-in-Some : goal.returns-in-Some
returns-in-Some c = record {
  demand = λ parts body is.
      ap asked_report (ap report_asked (sym is.target ∙ sym c.deref.ensures.value) ∙ sym c.in_ok-found.ensures.report ∙ c.in-Some.is);
}

pub returns-in-None : goal.returns-in-None
returns-in-None c = record {
  demand = λ parts body is.
      none_asked (report_asked parts.target) c.from.result
      (ap report_asked (sym is.target ∙ sym c.deref.ensures.value) ∙ sym c.in_ok-found.ensures.report ∙ c.in-None.is) c.from.ensures;
}
