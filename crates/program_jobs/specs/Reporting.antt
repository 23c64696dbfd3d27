-- What a report writes of a desk, and how it ends.
use Rattle.std.specs.Prelude.{◌≡◌, ⊤, ℕ, Bool, true, false, List, Option, None, Some, Result, Ok, Err}
use Rattle.std.specs.Io.KnownBytes.{Appends, Keeps}
use Rattle.sqlite.specs.Store.{Ghosts}
use Rattle.sqlite.specs.Held.{Held, state}
use Rattle.sqlite.specs.State.{HasCleanDisk}
use Rattle.commands.specs.declared.replies.Refusal.{Refusal}
use Rattle.commands.specs.declared.replies.Refusal.TheVariants as refusal
use Rattle.desk_sql.specs.Causes.{HasFaulted, IsUp}
use Rattle.ledger.specs.Answer.{State}
use Rattle.reports.specs.declared.faults.ReportFault.{ReportFault}
use Rattle.report_kinds.specs.Texts.{OfReport}
use Rattle.saga_core.specs.declared.report.Report.{Report}
use Rattle.saga_core.specs.Written.{WroteFront}
use Rattle.sql_model.specs.Spelling.{IsSpelled}
use Rattle.sql_model.specs.Standing.{IsDesk}
use Rattle.tables.specs.Lending.{IsOnlyRead, OpenedKeeps}
use Rattle.tables.specs.Opening.{Tells}
use Rattle.tables.specs.declared.faults.OpenFault.TheVariants as opening
use Rattle.tables.specs.declared.opening.Opened.{Opened}
use Rattle.program_ends.specs.declared.ends.End.{End}
use Rattle.program_ends.specs.declared.ends.End.TheVariants as finish
use Rattle.program_ends.specs.declared.faults.ProgramFault.{ProgramFault}
use Rattle.program_ends.specs.declared.faults.ProgramFault.TheVariants as fault
use Rattle.program_ends.specs.Ends.{IfDone, IsNotRefused, fault_of_report}

module _ {S : Type 0} (g : Ghosts S) where
  -- what was opened keeps this state of a desk
  pub record IsDeskIn (o : Opened S) (s : State) : Type 0 where
    pub desk : IsDesk s
    pub keeps : OpenedKeeps g o s

-- the refusal is that there is no such journey
abbrev pub IsNoJourney : Refusal → Type 0
IsNoJourney why = why ≡ refusal.NoJourney

module _ {S : Type 0} (g : Ghosts S) where
  -- This is shown of the desk that was opened; if its agents have the form of one, this failed only where the disk of a store that
  -- was up failed or refused; and what was opened was only read.
  pub record ShowsOpened (old new : Opened S) (Fails : Type 0) (IsShown : State → Type 0) : Type 0 where
    pub told : HasCleanDisk (state g new.conn) → (s : State) → IsDeskIn g old s → IsShown s
    pub reason : HasCleanDisk (state g new.conn) → (s : State) → IsDeskIn g old s → IsSpelled s.ledger → IsUp (state g old.conn)
        → Fails → HasFaulted (state g old.conn) (state g new.conn)
    pub kept : IsOnlyRead g old new

module _ {S : Type 0} (g : Ghosts S) (old new : Held S) where
  -- the refusal names the version of the tables, which is unknown, so that the connection represented no state
  abbrev pub RefusesVersion : Refusal → Type 0
  RefusesVersion (refusal.UnknownSchema n) = Tells g old new (opening.UnknownSchema n)
  RefusesVersion _ = ⊥

-- the end of a report: it was written, there is no such journey, or a fault came
abbrev pub end_of_report : Result Bool ReportFault → End
end_of_report (Ok true) = finish.Done
end_of_report (Ok false) = finish.Refused refusal.NoJourney
end_of_report (Err f) = finish.Fault (fault_of_report f)

-- the fault is one of a report: of memory, the store or the output, or of memory or the store while it was opened
abbrev pub IsFaultOfReport : ProgramFault → Type 0
IsFaultOfReport fault.Memory = ⊤
IsFaultOfReport fault.Store = ⊤
IsFaultOfReport fault.Write = ⊤
IsFaultOfReport fault.OpeningStore = ⊤
IsFaultOfReport fault.OpeningMemory = ⊤
IsFaultOfReport _ = ⊥

module _ (held holds : Option (List ℕ)) where
  -- a prefix of the text was written, and the whole text if all was done
  pub record ReportsText (text : List ℕ) (e : End) : Type 0 where
    pub whole : IfDone e (Appends held holds text)
    pub front : WroteFront held holds text

  -- nothing was written, and the end is that there is no such journey, or a fault
  abbrev pub ReportsNone : End → Type 0
  ReportsNone finish.Done = ⊥
  ReportsNone (finish.Refused why) = (why ≡ refusal.NoJourney) × Keeps held holds
  ReportsNone _ = Keeps held holds

  -- the text of a report, if there is one
  abbrev pub ReportsIfThere : Option (List ℕ) → End → Type 0
  ReportsIfThere None e = ReportsNone e
  ReportsIfThere (Some text) e = IsNotRefused e × ReportsText text e

  -- what a report writes of a desk, and how it ends
  abbrev pub Reports : Report → End → State → Type 0
  Reports report e s = OfReport report s.ledger (λ text. ReportsIfThere text e)
