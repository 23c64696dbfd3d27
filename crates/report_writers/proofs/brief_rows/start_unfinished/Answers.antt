-- The rows that will be returned are those of the unfinished journeys, and nothing changes, whether they start or not.
use Rattle.std.proofs.Common.{refl, subst, sym}
use Rattle.desk_sql.specs.FoundRows.{is_unfinished_after}
use Rattle.sql_lists.specs.ListedRows.{BriefsRest}
use Rattle.sql_reads.proofs.Starting.{not_started}
use Rattle.report_writers.proofs.HandedBriefs.{briefs_there, goes_on, goes_on_agree, good_there}
use Rattle.report_writers.proofs.StartLemmas.{started_good}
use Rattle.report_writers.proofs.brief_rows.start_unfinished.Goals as goal

pub returns : goal.returns
returns g c =
    let it = c.hand_unfinished in (
      (refl, it.follows.holds, not_started g.S.Store c.args.conn.now it.follows.lender-at-none it.result it.follows.holds-at-none),
      record {
        fault = tt;
        starts = started_good c.args.conn _ it.result it.ensures.started
            (λ v s desk t h begun briefs is. subst (BriefsRest g.S.Store h) (sym is)
            (briefs_there (is_unfinished_after 0) goes_on goes_on_agree s t begun))
            (λ v s desk spelled t. (_, refl, good_there (is_unfinished_after 0) goes_on goes_on_agree s t spelled));
      },
    )
