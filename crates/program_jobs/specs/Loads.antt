-- What a load of an allotment file does over a connection: its desk is recovered, the file is read, and then it is loaded.
use Rattle.std.specs.Prelude.{◌≡◌, ◌≢◌, ◌⊎◌, ℕ, List, Option, Some, Result}
use Rattle.sqlite.specs.Store.{Ghosts}
use Rattle.sqlite.specs.Held.{Held, state}
use Rattle.sqlite.specs.State.{HasCleanDisk}
use Rattle.commands.specs.BatchData.{Batched}
use Rattle.allotment_csv.specs.Files.{batch_of}
use Rattle.allotment_csv.specs.declared.faults.CsvFault.{CsvFault}
use Rattle.ledger.specs.Answer.{State}
use Rattle.ledger.specs.Ledger.{Event}
use Rattle.recovery.specs.Growing.{with_events}
use Rattle.recovery.specs.Recovers.{IsRecovery}
use Rattle.desk_jobs.specs.Openings.{File, Nothing, asks_of_file}
use Rattle.desk_jobs.specs.Connections.{MayBeLeft, Represents}
use Rattle.program_ends.specs.Ends.{EndsBadly, IfDone}
use Rattle.program_ends.specs.declared.ends.End.{End}
use Rattle.program_ends.specs.declared.ends.End.TheVariants as finish
use Rattle.program_ends.specs.declared.faults.ProgramFault.{ProgramFault}
use Rattle.program_ends.specs.declared.faults.ProgramFault.TheVariants as fault
use Rattle.desk_jobs.specs.Ends.{IsFaultOfLoad, TellsAccepted}
use Rattle.desk_jobs.specs.Following.{Follows}
use Rattle.desk_jobs.specs.Jobs.{EndsOpened, NotReady, NotesRun}
use Rattle.desk_jobs.specs.Loading.{EndsLoad}
use Rattle.desk_jobs.specs.Notes.{NotesField, refused_field}
use Rattle.desk_jobs.specs.Reasons.{FailsToRun}
use Rattle.program_jobs.specs.Sources.{AreReadFrom, IsFaultOfSource}
use Rattle.program_jobs.specs.Streams.{Streams, IsOnlyWritten}
use Rattle.program_jobs.specs.declared.tasks.Source.{Source}
use Rattle.program_jobs.specs.declared.tasks.Source.TheVariants as source

-- the file was not read, for such a reason, and nothing was written
pub record IsUnread (t : Streams) (from : Source) (end : End) : Type 0 where
  pub why : ProgramFault
  pub ends : end ≡ finish.Fault why
  pub fault : IsFaultOfSource from why
  pub unwritten : t.holds ≡ t.held

-- a load that is read from a file reads nothing of the input
abbrev pub ReadsSource : Streams → Source → Type 0
ReadsSource t from = from ≢ source.Input → t.rest ≡ t.input

-- A load over a connection.
module _ {S : Type 0} (g : Ghosts S) (old new : Held S) (t : Streams) (files : List ℕ → Option (List ℕ)) (from : Source)
    (name : List ℕ) where
  -- a load over the recovery of a state came to this end
  pub record LoadsAfterRecovery (read : Result Batched CsvFault) (s : State) (end : End) : Type 0 where
    pub events : List Event
    pub is : IsRecovery s events
    pub loaded : EndsLoad t.held t.holds (Represents g new) (MayBeLeft g new) (with_events s events) read end

  -- nothing came to the desk: it was not opened or not recovered, or the file was not read
  pub record LoadsNothing (end : End) : Type 0 where
    pub why : (NotReady g old new end × IsOnlyWritten t × (t.holds ≡ t.held)) ⊎ IsUnread t from end
    pub follows : Follows g old new (Some Nothing) t.held t.holds end
    pub bad : EndsBadly end
    pub notes : NotesRun g old new t.noted t.notes

  -- the desk was recovered, and these bytes of the file were read, and loaded
  pub record LoadsBytes (end : End) : Type 0 where
    pub bytes : List ℕ
    pub read : AreReadFrom files t.input from bytes
    pub loaded : HasCleanDisk (state g new) → (s : State) → Represents g old s → LoadsAfterRecovery (batch_of name bytes) s end
    pub told : IfDone end (TellsAccepted t.held t.holds)
    pub follows : Follows g old new (Some (File name bytes)) t.held t.holds end
    -- a failed store has a reason: of the recovery, or of the load
    pub reason : HasCleanDisk (state g new) → end ≡ finish.Fault fault.Store
        → FailsToRun g old new (asks_of_file (batch_of name bytes))
    pub ends : EndsOpened IsFaultOfLoad end
    -- the recovery was noted, and then the field for which a row was refused
    pub between : Option (List ℕ)
    pub recovered : NotesRun g old new t.noted between
    pub field : NotesField (refused_field bytes end) between t.notes

  -- the one or the other
  pub record Loads (end : End) : Type 0 where
    pub either : LoadsNothing end ⊎ LoadsBytes end
    pub read : ReadsSource t from
