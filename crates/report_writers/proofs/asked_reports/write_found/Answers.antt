-- The rows that are written are those of the state that is kept.
use Rattle.std.proofs.Common.{rules}
use Rattle.reports.proofs.FrontLemmas.{front_none}
use Rattle.report_writers.proofs.ReadyLemmas.{ready_alone, takes_fails}
use Rattle.report_writers.proofs.ShowLemmas.{shows_none, shows_rows}
use Rattle.report_writers.proofs.asked_reports.write_found.Goals as goal

pub returns : goal.returns
returns g c = record {
  shows = shows_rows g.S.Store c.in-Ok.ensures.starts c.stock_lines.ensures.writes.takes.kept.under.quiet (search rules)
      (λ sound s begun rows are. c.stock_lines.ensures.writes.wrote sound rows (c.new.ensures.going, begun rows are))
      (λ sound good up. takes_fails c.stock_lines.ensures.writes.takes sound (ready_alone g.S.Store _ (c.new.ensures.going, good) up));
}

-- they could not be started
pub returns-in-Err : goal.returns-in-Err
returns-in-Err g c = record {
  shows = shows_none c.in-Err.is c.start_cells.follows.holds-at-none c.fault_of.ensures.memory c.into.ensures
      (λ s rows are. record { written = tt; number = tt; front = front_none _ _ });
}
