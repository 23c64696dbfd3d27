-- What was written of a report, and how its job ends. For the job of a report.
use Rattle.std.proofs.Common.{◌≡◌, false, refl, true, ℕ, Bool, List, Option, Result, None, Some, Ok, Err}
use Rattle.std.specs.Io.KnownBytes.{Keeps}
use Rattle.saga_core.proofs.ByteLemmas.{appends_before, keeps_same}
use Rattle.reports.proofs.FrontLemmas.{front_none, front_whole}
use Rattle.reports.specs.declared.faults.ReportFault.{ReportFault}
use Rattle.program_ends.specs.declared.ends.End.TheVariants as finish
use Rattle.program_ends.specs.declared.faults.ProgramFault.{ProgramFault}
use Rattle.saga_core.specs.declared.report.Report.{Report}
use Rattle.ledger.specs.Answer.{State}
use Rattle.report_writers.specs.Writing.{WritesIfThere}
use Rattle.program_jobs.specs.Reporting.{end_of_report, Reports, ReportsIfThere}

-- what was written of it is still there after a flush, which may fail
pub flushed : (held before after text : Option (List ℕ)) → WritesIfThere held before text (Ok true) → Keeps before after
    → WritesIfThere held after text (Ok true)
flushed held before after None wrote kept = let no : true ≡ false = wrote.0 in absurd (cc)
flushed held before after (Some text) wrote kept =
    let all = appends_before held before after text wrote.1.whole kept in
    (refl, record { whole = all; front = front_whole held after text all })

pub unflushed : (held holds text : Option (List ℕ)) (f : ReportFault) → WritesIfThere held holds text (Ok true)
    → WritesIfThere held holds text (Err f)
unflushed held holds None f wrote = let no : true ≡ false = wrote.0 in absurd (cc)
unflushed held holds (Some text) f wrote = (tt, record { whole = tt; front = wrote.1.front })

-- the end of what was written so
pub written_reports : (held holds text : Option (List ℕ)) (r : Result Bool ReportFault) → WritesIfThere held holds text r
    → ReportsIfThere held holds text (end_of_report r)
written_reports held holds None (Ok true) wrote = let no : true ≡ false = wrote.0 in absurd (cc)
written_reports held holds None (Ok false) wrote = (refl, wrote.1)
written_reports held holds None (Err f) wrote = wrote.1
written_reports held holds (Some text) (Ok true) wrote = (tt, record { whole = wrote.1.whole; front = wrote.1.front })
written_reports held holds (Some text) (Ok false) wrote = let no : false ≡ true = wrote.0 in absurd (cc)
written_reports held holds (Some text) (Err f) wrote = (tt, record { whole = tt; front = wrote.1.front })

-- a fault came where nothing was written
none_told : (held : Option (List ℕ)) (text : Option (List ℕ)) (f : ProgramFault) → ReportsIfThere held held text (finish.Fault f)
none_told held None f = keeps_same held
none_told held (Some text) f = (tt, record { whole = tt; front = front_none held text })

pub failed_report : (held : Option (List ℕ)) (asked : Report) (f : ProgramFault) (s : State) → Reports held held asked (finish.Fault f) s
failed_report held asked f s = λ stock is. none_told held _ f
