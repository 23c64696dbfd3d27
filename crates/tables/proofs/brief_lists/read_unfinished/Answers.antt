-- The briefs that are taken are those of the state that is kept.
use Rattle.std.proofs.Common.{rules}
use Rattle.desk_sql.specs.FoundRows.{is_unfinished_after}
use Rattle.saga_core.specs.Views.{is_unfinished_above}
use Rattle.sql_reads.proofs.ReadLemmas.{read_less}
use Rattle.reports.proofs.TakeLemmas.{whole_list}
use Rattle.report_writers.proofs.HandedBriefs.{unfinished_agree}
use Rattle.report_writers.proofs.ReadyLemmas.{ready_alone, takes_fails}
use Rattle.report_writers.proofs.ShowLemmas.{reported_store}
use Rattle.tables.proofs.BriefLists.{briefs_read}
use Rattle.tables.proofs.Taken.{not_begun_read}
use Rattle.tables.proofs.brief_lists.read_unfinished.Goals as goal

-- rows that could not be started
pub returns-in-Err : goal.returns-in-Err
returns-in-Err g c = not_begun_read c.in-Err.is c.hand_unfinished.follows.holds-at-none c.fault_of.ensures.memory

pub returns : goal.returns
returns g c =
    let after = c.args.after in
    let taken = c.take_rows.ensures in
    read_less
    (briefs_read 18446744073709551615 (is_unfinished_after after) (is_unfinished_above after) (unfinished_agree after) (search rules) c.in-Ok.ensures.started.starts
    taken.takes.kept.under.quiet (λ clean all rests. taken.taken clean all (c.new.ensures.going, rests))
    (λ clean good up store. takes_fails taken.takes clean (ready_alone g.S.Store _ (c.new.ensures.going, good) up) (reported_store _ store))) (λ s briefs is. whole_list briefs _ is)
