-- The rows that are written are those of the state that is kept.
use Rattle.std.proofs.Common.{rules}
use Rattle.report_writers.proofs.WriteLemmas.{wrote_none, wrote_rows}
use Rattle.report_writers.proofs.ReadyLemmas.{ready_alone, takes_fails}
use Rattle.report_writers.proofs.ShowLemmas.{shows_none, shows_rows}
use Rattle.report_writers.proofs.month_reporting.write_months.Goals as goal

pub returns : goal.returns
returns g c = record {
  shows = shows_rows g.S.Store c.in-Ok.ensures.starts c.months_text.ensures.writes.takes.kept.under.quiet (search rules)
      (λ sound s begun rows stock. wrote_rows _ _ (c.months_text.ensures.writes.wrote sound rows (c.new.ensures.going, begun rows stock)))
      (λ sound good up. takes_fails c.months_text.ensures.writes.takes sound (ready_alone g.S.Store _ (c.new.ensures.going, good) up));
}

-- they could not be started
pub returns-in-Err : goal.returns-in-Err
returns-in-Err g c = record { shows = shows_none c.in-Err.is c.start_stock.follows.holds-at-none c.fault_of.ensures.memory c.into.ensures (λ s rows stock. wrote_none _ _ _) }
