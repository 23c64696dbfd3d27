-- What was written is reported by the end.
use Rattle.std.proofs.Common.{◌∙◌, rules, subst, sym, IsErrOf}
use Rattle.report_kinds.specs.Texts.{OfReport}
use Rattle.reports.specs.declared.faults.ReportFault.TheVariants.{Store}
use Rattle.report_writers.specs.Writing.{AnyDesk, ShowsIn, WritesIfThere}
use Rattle.program_jobs.proofs.EndLemmas.{not_opening, written_ends, written_fails}
use Rattle.program_jobs.proofs.ReportLemmas.{written_reports}
use Rattle.program_jobs.proofs.ShowLemmas.{shows_lent}
use Rattle.program_jobs.proofs.reporting.tell_report.Goals as goal

pub returns-clause-shows : goal.returns-clause-shows
returns-clause-shows g c =
    shows_lent g.S.Store c.connection.ensures.same
    (subst (λ v. ShowsIn g.S.Store v c.connection.result.now c.write_report-done.new.conn (IsErrOf c.write_report-done.result Store) AnyDesk (λ s. OfReport c.args.report.now s.ledger
    (λ text. WritesIfThere (g.O.Write.contents c.args.out.now) (g.O.Write.contents c.write_report-done.new.out) text c.write_report-done.result))) c.version-version.ensures.same c.write_report-done.ensures.shows) (search rules) (search rules)
    (λ is. c.flush_written.ensures.store (written_fails c.flush_written.result (sym c.end_of_report.ensures.end ∙ is)))
    (λ s shown stock is. rw c.end_of_report.ensures.end
    (written_reports _ _ _ c.flush_written.result (c.flush_written.ensures.written _ _ (shown stock is))))

pub returns-clause-ends : goal.returns-clause-ends
returns-clause-ends g c =
    rw c.end_of_report.ensures.end
    (written_ends c.args.report.now c.flush_written.result (λ none. c.write_report-done.ensures.absent (c.flush_written.ensures.absent none)))

pub returns-clause-opened : goal.returns-clause-opened
returns-clause-opened g c is = not_opening c.flush_written.result (sym c.end_of_report.ensures.end ∙ is)
