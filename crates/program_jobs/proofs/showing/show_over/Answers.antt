-- What was written in blocks reached the output: all of it where the report is done, and a prefix of it in any case.
use Rattle.std.proofs.Common.{rules, drop, sym, subst}
use Rattle.program_jobs.specs.Reporting.{ReportsIfThere}
use Rattle.program_jobs.specs.Jobs.{FailsReport}
use Rattle.program_jobs.proofs.EndLemmas.{fails_late, fails_not}
use Rattle.program_jobs.proofs.ReportLemmas.{failed_report}
use Rattle.program_jobs.proofs.ShownLemmas.{report_cut, report_reached}
use Rattle.program_jobs.proofs.showing.show_over.Goals as goal

pub returns-in_default-clause-told : goal.returns-in_default-clause-told
returns-in_default-clause-told g c clean v s was = failed_report (g.O.Write.contents c.args.out.now) c.args.report.now _ s

-- out of memory is no fault of the store
pub returns-in_default-clause-fails : goal.returns-in_default-clause-fails
returns-in_default-clause-fails g c = fails_not g.S.Store _ _ _ (λ is. cc) (λ is. cc)

pub returns-in-Ok-pass_on-clause-told : goal.returns-in-Ok-pass_on-clause-told
returns-in-Ok-pass_on-clause-told g c clean v s was stock is =
    report_reached g.O.Write.contents _ (drop 0 c.in-Ok.room.items) c.args.out.now _ c.report_over-conn.new.out c.pass_on.new.self
    c.in-Ok.ensures.items c.pass_on.ensures.kept _ _ (c.report_over-conn.ensures.told clean v s was stock is)
    c.in-Ok-pass_on.ensures.sent (search rules)

-- nor is a write that fails after it
pub returns-clause-fails : goal.returns-clause-fails
returns-clause-fails g c =
    subst (FailsReport g.S.Store c.args.conn c.report_over-conn.result.0) (sym c.then.ensures.end) (fails_late g.S.Store _ _ _ c.report_over-conn.ensures.fails)

pub returns-clause-told : goal.returns-clause-told
returns-clause-told g c clean v s was stock is =
    subst (ReportsIfThere (g.O.Write.contents c.args.out.now) _ _) (sym c.then.ensures.end)
    (report_cut g.O.Write.contents _ (drop 0 c.in-Ok.room.items) c.args.out.now _ c.report_over-conn.new.out c.pass_on.new.self
    c.in-Ok.ensures.items c.pass_on.ensures.kept _ _ (c.report_over-conn.ensures.told clean v s was stock is) (search rules))
