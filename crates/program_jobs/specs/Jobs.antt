-- What the job of a report promises: what it writes, how it ends, and what it leaves of its connection.
use Rattle.std.specs.Prelude.{◌≡◌, ◌⊎◌}
use Rattle.sqlite.specs.Store.{Ghosts}
use Rattle.sqlite.specs.Held.{Held, state}
use Rattle.sqlite.specs.State.{HasCleanDisk}
use Rattle.commands.specs.declared.replies.Refusal.{Refusal}
use Rattle.desk_sql.specs.Calls.{Idle}
use Rattle.desk_sql.specs.Causes.{HasFaulted, IsUp}
use Rattle.desk_sql.specs.declared.versions.Version.{Version}
use Rattle.ledger.specs.Answer.{State}
use Rattle.desk_jobs.specs.Connections.{RepresentsIn, StillRepresents}
use Rattle.program_ends.specs.Ends.{EndsJob, IfFault, IfRefused}
use Rattle.program_ends.specs.declared.ends.End.{End}
use Rattle.program_ends.specs.declared.ends.End.TheVariants as finish
use Rattle.program_ends.specs.declared.faults.ProgramFault.TheVariants as program
use Rattle.sql_model.specs.Keeping.{WasClean}
use Rattle.sql_model.specs.Spelling.{IsSpelled}
use Rattle.tables.specs.Opening.{FailsToFound, FailsToOpen}
use Rattle.tables.specs.declared.faults.OpenFault.TheVariants.{Store}
use Rattle.report_kinds.specs.Texts.{IsOfJourney}
use Rattle.saga_core.specs.declared.report.Report.{Report}
use Rattle.program_jobs.specs.Reporting.{IsFaultOfReport, IsNoJourney, RefusesVersion}

-- a report of one journey is refused where there is none of its number, and no other report
abbrev pub RefusesAbsent : Report → Refusal → Type 0
RefusesAbsent report why = IsOfJourney report × IsNoJourney why

-- the end of a report: all was done, a fault of a report, or a refusal for such a reason
pub record EndsReport (MayRefuse : Refusal → Type 0) (e : End) : Type 0 where
  pub refused : IfRefused e MayRefuse
  pub fault : IfFault e IsFaultOfReport
  pub job : EndsJob e

module _ {S : Type 0} (g : Ghosts S) (old new : Held S) where
  -- the refusal is that, or names the version of the tables, which is unknown
  abbrev pub RefusesToShow : Report → Refusal → Type 0
  RefusesToShow shown why = RefusesAbsent shown why ⊎ RefusesVersion g old new why

  -- why a report failed with a fault of the store
  pub record FailsReport (e : End) : Type 0 where
    -- of a desk that the connection represented, whose agents have the form of one, in a store that was up: the disk failed or refused
    pub reason : HasCleanDisk (state g new) → (v : Version) (s : State) → RepresentsIn g old v s → IsSpelled s.ledger
        → IsUp (state g old) → e ≡ finish.Fault program.Store → HasFaulted (state g old) (state g new)
    -- of an opening, where the connection kept a desk and where it had no tables
    pub opening : e ≡ finish.Fault program.OpeningStore → FailsToOpen g old new Store
    pub founding : e ≡ finish.Fault program.OpeningStore → FailsToFound g old new Store

  -- what a report leaves of its connection: it represents what it represented, and is idle
  pub record KeepsDesk : Type 0 where
    pub same : HasCleanDisk (state g new) → (v : Version) (s : State) → RepresentsIn g old v s → StillRepresents g new s
    pub idle : Idle new
    pub sound : WasClean g old new
