-- The rows that will be returned are those of the journeys that are asked for, and nothing changes, whether they start or not.
use Rattle.std.proofs.Common.{refl, subst, sym}
use Rattle.saga_core.specs.JourneyFilters.{is_journey_asked}
use Rattle.sql_lists.specs.JourneyLists.{is_journey_listed}
use Rattle.sql_lists.specs.ListedRows.{BriefsRest}
use Rattle.sql_reads.proofs.Starting.{not_started}
use Rattle.report_writers.proofs.HandedBriefs.{asked_agree, briefs_there, good_there}
use Rattle.report_writers.proofs.StartLemmas.{started_good}
use Rattle.report_writers.proofs.brief_rows.start_journeys.Goals as goal

pub returns : goal.returns
returns g c =
    let it = c.hand_journeys in (
      (refl, it.follows.holds, not_started g.S.Store c.args.conn.now it.follows.lender-at-none it.result it.follows.holds-at-none),
      record {
        fault = tt;
        starts = started_good c.args.conn _ it.result it.ensures.started
            (λ v s desk t h begun briefs is. subst (BriefsRest g.S.Store h) (sym is)
            (briefs_there (is_journey_listed c.args.filter.now) (is_journey_asked c.args.filter.now) (asked_agree c.args.filter.now) s t begun))
            (λ v s desk spelled t.
            (_, refl, good_there (is_journey_listed c.args.filter.now) (is_journey_asked c.args.filter.now) (asked_agree c.args.filter.now) s t spelled));
      },
    )
