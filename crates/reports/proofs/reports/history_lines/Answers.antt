-- The parts that are written are the history.
use Rattle.std.proofs.Common.{◌∙◌}
use Rattle.reports.proofs.HistoryLemmas.{history_in_parts}
use Rattle.reports.proofs.TakeLemmas.{writes_same}
use Rattle.reports.proofs.reports.history_lines.Goals as goal

pub returns : goal.returns
returns g c = record {
  writes = writes_same c.send_report.ensures.writes (λ all.
      history_in_parts c.args.id c.args.journey.now all c.as_str-2.result.now c.as_str.result.now
      (c.as_str-2.ensures.value ∙ c.in_ok-head.ensures.head) (c.as_str.ensures.value ∙ c.in_ok-state.ensures.line));
}
