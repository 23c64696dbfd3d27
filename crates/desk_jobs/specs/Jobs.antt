-- What a job says of its connection, of its end, and of why it ended so.
use Rattle.std.specs.Prelude.{◌≡◌, ◌≢◌, ℕ, List, Option, Result, IfSome}
use Rattle.sqlite.specs.Store.{Ghosts}
use Rattle.sqlite.specs.Held.{Held, state}
use Rattle.sqlite.specs.State.{HasCleanDisk}
use Rattle.commands.specs.BatchData.{Batched}
use Rattle.allotment_csv.specs.declared.faults.CsvFault.{CsvFault}
use Rattle.recovery.specs.Lines.{lines}
use Rattle.recovery.specs.LineWorlds.{asks_in}
use Rattle.ledger.specs.Answer.{State}
use Rattle.desk_jobs.specs.Executions.{HasComeUp, HasNotComeUp}
use Rattle.desk_jobs.specs.Connections.{MayBeLeft, RefusesOtherTables, Represents}
use Rattle.program_ends.specs.Ends.{EndsBadly, EndsJob, IfDone, IfFault, IfRefused}
use Rattle.program_ends.specs.declared.ends.End.{End}
use Rattle.program_ends.specs.declared.ends.End.TheVariants as finish
use Rattle.program_ends.specs.declared.faults.ProgramFault.{ProgramFault}
use Rattle.program_ends.specs.declared.faults.ProgramFault.TheVariants as program
use Rattle.recovery.specs.Recovers.{Recovers}
use Rattle.saga_core.specs.Runs.{Asks}
use Rattle.sql_model.specs.Keeping.{WasClean}
use Rattle.sql_model.specs.Staying.{StaysUp}
use Rattle.tables.specs.BookTerms.{StandsBook}
use Rattle.desk_sql.specs.Calls.{Idle}
use Rattle.desk_sql.specs.declared.versions.Version.TheVariants.{Two}
use Rattle.tables.specs.Opening.{FailsToFound, FailsToOpen, StoodOnlyIn}
use Rattle.tables.specs.declared.books.TableBook.{TableBook}
use Rattle.tables.specs.declared.faults.OpenFault.TheVariants.{Store}
use Rattle.desk_jobs.specs.Ends.{IsFaultOfRecovery, IsFaultOfRun}
use Rattle.desk_jobs.specs.Loading.{EndsLoad}
use Rattle.desk_jobs.specs.Notes.{MayNote}
use Rattle.desk_jobs.specs.Reasons.{FailsToLoadFor, FailsToRecover, FailsToRun, MayActOnceOpened, RecoversToAct}
use Rattle.desk_jobs.specs.Running.{AnswersAfterRecovery, AnswersFrontAfterRecovery, NotesRecovery}

-- The end of a job over a desk that was opened: it is that of a job, with such a fault, and never that of an opening.
pub record EndsOpened (IsFault : ProgramFault → Type 0) (end : End) : Type 0 where
  pub job : EndsJob end
  pub opened : end ≢ finish.Fault program.OpeningStore
  pub fault : IfFault end IsFault

module _ {S : Type 0} (g : Ghosts S) (old new : Held S) where
  -- the connection may be opened again, and its disk is clean only if it was clean before
  pub record Leaves : Type 0 where
    pub idle : Idle new
    pub sound : WasClean g old new

  -- Why the desk of a connection was not opened, if the end is that.
  pub record EndsOpening (end : End) : Type 0 where
    -- it is refused for tables of another version alone
    pub refused : IfRefused end (RefusesOtherTables g old new)
    -- a failed store has a reason, where the connection kept a desk and where it had no tables
    pub opening : end ≡ finish.Fault program.OpeningStore → FailsToOpen g old new Store
    pub founding : end ≡ finish.Fault program.OpeningStore → FailsToFound g old new Store

  -- The desk of a connection was not opened, or not recovered, with this end.
  pub record NotReady (end : End) : Type 0 where
    pub opening : EndsOpening end
    -- a recovery whose store failed has a reason
    pub reason : HasCleanDisk (state g new) → end ≡ finish.Fault program.Store → FailsToRecover g old new
    pub fault : IfFault end IsFaultOfRecovery
    pub bad : EndsBadly end
    -- each recoverable state stands for where the recovery stopped
    pub left : HasCleanDisk (state g new) → HasNotComeUp g old new
    pub leaves : Leaves

  -- The end of a run: of its opening, its recovery, or its lines.
  pub record EndsRun (end : End) : Type 0 where
    pub opening : EndsOpening end
    pub fault : IfFault end IsFaultOfRun
    pub job : EndsJob end

  -- What a run answered to an input that may be known, between these contents of its output.
  pub record RunsOver (input held holds : Option (List ℕ)) (end : End) : Type 0 where
    -- where all was done, the answers to all lines were written, over the recovered state; a prefix of them in any case
    pub all : HasCleanDisk (state g new) → (s : State) → Represents g old s
        → IfSome input (λ bytes. IfDone end (AnswersAfterRecovery held holds (Represents g new) s bytes))
    pub front : HasCleanDisk (state g new) → (s : State) → Represents g old s
        → IfSome input (AnswersFrontAfterRecovery held holds s)
    -- a failed store has a reason: of the recovery, or of one of the asks of the lines
    pub reason : HasCleanDisk (state g new) → end ≡ finish.Fault program.Store
        → IfSome input (λ bytes. FailsToRun g old new (asks_in (lines bytes)))

  -- What a run noted, between these contents of its notes: at most how many events the recovery has.
  pub record NotesRun (held holds : Option (List ℕ)) : Type 0 where
    pub noted : HasCleanDisk (state g new) → (s : State) → Represents g old s → NotesRecovery held holds s
    pub may : MayNote held holds

module _ {S : Type 0} (g : Ghosts S) where
  -- A book over the desk of a connection, which may not be recovered yet.
  pub record OpensBook (old : Held S) (b : TableBook S g) : Type 0 where
    pub stands : (s : State) → Represents g old s → StandsBook g b s
    -- in tables of another version than the newest the connection represented no state
    pub newest : StoodOnlyIn g old b.conn Two
    pub sound : WasClean g old b.conn
    pub up : StaysUp g old b.conn
    pub may_act : MayActOnceOpened g old b

  -- A recovered desk over a connection, whose recovery made so many events.
  pub record Readies (old : Held S) (b : TableBook S g) (made : ℕ) : Type 0 where
    pub recovered : HasCleanDisk (state g b.conn) → Recovers (Represents g old) (StandsBook g b) made
    -- each execution at whose end the connection stood goes on with the recovery
    pub world : HasCleanDisk (state g b.conn) → HasComeUp g old (StandsBook g b)
    -- it may act for later asks, where a job might start for them
    pub may_act : HasCleanDisk (state g b.conn) → (later : Asks) → RecoversToAct g old b later made
    pub sound : WasClean g old b.conn

  -- what a job leaves of the connection of a desk
  abbrev pub LeavesDesk : TableBook S g → Held S → Type 0
  LeavesDesk b new = Leaves g b.conn new

  module _ (b : TableBook S g) (new : Held S) where
    -- What a load of a file into a recovered desk came to, between these contents of the output.
    pub record LoadsDesk (read : Result Batched CsvFault) (held holds : Option (List ℕ)) (end : End) : Type 0 where
      pub loaded : HasCleanDisk (state g new) → (s : State) → StandsBook g b s
          → EndsLoad held holds (Represents g new) (MayBeLeft g new) s read end
      -- a failed store has a reason
      pub reason : HasCleanDisk (state g new) → end ≡ finish.Fault program.Store → FailsToLoadFor g b new read
