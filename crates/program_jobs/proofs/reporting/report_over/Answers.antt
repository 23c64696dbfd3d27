-- An opening that failed wrote nothing; one that did not found the state that was represented.
-- More than 60 lines: two ways out and four clauses.
use Rattle.std.proofs.Common.{sym, subst}
use Rattle.sqlite.specs.Held.{state}
use Rattle.desk_sql.specs.Causes.{HasFaulted}
use Rattle.sql_model.proofs.Quieting.{quiet_clean, quiet_up}
use Rattle.sql_model.proofs.Staying.{fails_twice}
use Rattle.program_jobs.specs.Reporting.{Reports}
use Rattle.program_jobs.proofs.EndLemmas.{ends_begun, ends_unopened, fails_unopened, unopened_report}
use Rattle.program_jobs.proofs.ShowLemmas.{found_in, still_in}
use Rattle.program_jobs.proofs.reporting.report_over.Goals as goal

pub returns-clause-told : goal.returns-clause-told
returns-clause-told g c clean v s was =
    c.tell_report-end.ensures.shows.told (c.into_store.ensures.sound clean) s
    (found_in g.S.Store c.args.conn c.in-Ok.opened v s c.in-Ok.ensures.opens was)

pub returns-in-Err-clause-told : goal.returns-in-Err-clause-told
returns-in-Err-clause-told g c clean v s was =
    let held = g.O.Write.contents c.args.out.now in
    subst (λ e. Reports held held c.args.report.now e s) (sym c.end_of_opening.ensures.end)
    (unopened_report g.S.Store c.args.conn c.in-Err.conn held c.args.report.now c.in-Err.fault v s c.in-Err.ensures.fails.told clean was.stood)

pub returns-clause-ends : goal.returns-clause-ends
returns-clause-ends g c = ends_begun g.S.Store c.args.conn c.into_store.result c.args.report.now _ c.tell_report-end.ensures.ends

-- an opening that failed is refused where the version is unknown
pub returns-in-Err-clause-ends : goal.returns-in-Err-clause-ends
returns-in-Err-clause-ends g c =
    ends_unopened g.S.Store c.args.conn c.in-Err.conn c.args.report.now c.in-Err.fault _ c.end_of_opening.ensures.end c.in-Err.ensures.fails.told

-- a report that was begun failed for a reason, and is not an opening
pub returns-clause-fails : goal.returns-clause-fails
returns-clause-fails g c =
    let opens = c.in-Ok.ensures.opens in
    let read = c.tell_report-end.ensures.shows in
    let given = c.into_store.ensures in
    let quiet = read.kept.quiet in
    record {
      reason = λ clean v s was spelled up is. (
          let here = found_in g.S.Store c.args.conn c.in-Ok.opened v s opens was in
          let before = given.sound clean in
          subst (λ h. HasFaulted (state g.S.Store c.args.conn) (state g.S.Store h)) (sym given.same)
          (fails_twice g.S.Store c.args.conn c.in-Ok.opened.conn c.tell_report-end.new.opened.conn opens.up (quiet_up _ _ _ quiet)
          (quiet_clean _ _ _ quiet) before up (λ still. read.reason before s here spelled still is)));
      opening = λ is. absurd (c.tell_report-end.ensures.opened is);
      founding = λ is. absurd (c.tell_report-end.ensures.opened is);
    }

pub returns-in-Err-clause-fails : goal.returns-in-Err-clause-fails
returns-in-Err-clause-fails g c =
    fails_unopened g.S.Store c.args.conn c.in-Err.conn c.in-Err.fault _ c.end_of_opening.ensures.end c.in-Err.ensures.fails

-- what was opened was only read, and its connection is returned
pub returns-clause-keeps : goal.returns-clause-keeps
returns-clause-keeps g c =
    let read = c.tell_report-end.ensures.shows.kept in
    record {
      same = λ clean v s was. (
          let is = found_in g.S.Store c.args.conn c.in-Ok.opened v s c.in-Ok.ensures.opens was in (
            c.tell_report-end.new.opened.version,
            record { desk = was.desk; stood = c.into_store.ensures.found s (still_in g.S.Store _ _ s read is).keeps },
          ));
      idle = record {
        outside = c.into_store.ensures.outside (read.quiet.mode c.in-Ok.ensures.opens.idle.outside);
        unlimited = c.into_store.ensures.unlimited;
      };
      sound = λ clean. c.in-Ok.ensures.opens.sound (quiet_clean _ _ _ read.quiet (c.into_store.ensures.sound clean));
    }
