-- The items that were returned are the history in each state that was kept.
use Rattle.std.proofs.Common.{refl, rules}
use Rattle.sql_model.proofs.Quieting.{quiet_keeps}
use Rattle.report_writers.proofs.ReadyLemmas.{at_start, ready_alone, takes_fails}
use Rattle.report_writers.proofs.ShowLemmas.{in_no_items, reported_store, shows_items}
use Rattle.report_writers.proofs.whys.read_latest.Goals as goal

pub returns : goal.returns
returns g c = record {
  shows = shows_items g.S.Store c.in-Ok.ensures.under.quiet c.in-Ok.ensures.rows
      (λ clean s desk spelled keeps. at_start g.S.Store c.in-Ok.ensures.start s desk spelled
      (quiet_keeps g.S.Store c.args.conn.now _ c.in-Ok.ensures.under.quiet c.args.version s keeps))
      c.latest_option.ensures.takes.kept.quiet (search rules)
      (λ sound s begun. c.latest_option.ensures.latest sound _ (begun _ refl))
      (λ sound good up e. takes_fails c.latest_option.ensures.takes sound (ready_alone g.S.Store _ good up) (reported_store _ e));
}

-- they could not be started
pub returns-in-Err : goal.returns-in-Err
returns-in-Err g c = record { shows = in_no_items c.in-Err.is c.start_items.follows.holds-at-none (λ e. cc) (λ s. tt) }
