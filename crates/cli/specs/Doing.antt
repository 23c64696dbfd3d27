-- What was done for a call: a task over a file, whose closing it includes, or what is done without one.
use Rattle.std.specs.Prelude.{◌≡◌, ◌≢◌, ◌⊎◌, ℕ, List, Option, None, Some}
use Rattle.std.specs.Io.KnownBytes.{Appends, Keeps}
use Rattle.sqlite.specs.Store.{Ghosts}
use Rattle.sqlite_disk.specs.declared.Disk.{Ghosts as Disk}
use Rattle.sqlite_wal.specs.Recovery.{Image}
use Rattle.commands.specs.declared.replies.Refusal.TheVariants as refusal
use Rattle.command_line.specs.Version.{version_line}
use Rattle.command_line.specs.declared.asking.Socket.{Socket}
use Rattle.command_line.specs.declared.jobs.Job.{Job}
use Rattle.program_ends.specs.declared.closing.Left.{Left}
use Rattle.desk_jobs.specs.Notes.{MayNoteAll}
use Rattle.http_conversations.specs.Worlds.{Exchange}
use Rattle.program_ends.specs.Causes.{Explains}
use Rattle.program_ends.specs.Ends.{EndsJob, IfDone, TellsError, status_of, told_out}
use Rattle.program_ends.specs.declared.ended.Ended.{Ended}
use Rattle.program_ends.specs.declared.ends.End.{End}
use Rattle.program_ends.specs.declared.ends.End.TheVariants as finish
use Rattle.program_ends.specs.declared.faults.ProgramFault.TheVariants as fault
use Rattle.program_jobs.specs.Streams.{IsOnlyWritten, IsUntouched, Streams, streams}
use Rattle.program_jobs.specs.Doing.{Did}
use Rattle.program_jobs.specs.InvokedTasks.{RanOver}
use Rattle.saga_core.specs.Written.{WroteFront}
use Rattle.cli.specs.Actions.{IsActionOf, IsOfLoad}
use Rattle.cli.specs.Ends.{HasBadId, ReadsFor, TellsOf}
use Rattle.cli.specs.declared.actions.Action.{Action}
use Rattle.cli.specs.declared.actions.Action.TheVariants as action

-- nothing is known of the bytes of files
abbrev pub unknown_files : List ℕ → Option (List ℕ)
unknown_files = λ name. None

-- What is done without a file.
module _ (t : Streams) (ended : Ended) where
  -- a desk was asked for a report, and nothing was read or noted; nor was anything printed, unless it was its answer
  pub record Asked : Type 0 where
    pub job : EndsJob ended.end
    pub only : IsOnlyWritten t
    pub untold : ended.end ≢ finish.Done → ended.end ≢ finish.Fault fault.Write → Keeps t.held t.holds

  -- the words were refused, and nothing was done
  pub record Refused : Type 0 where
    pub end : ended.end ≡ finish.Refused refusal.BadBody
    pub untouched : IsUntouched t

  -- the version was printed
  pub record ShowedVersion : Type 0 where
    pub job : EndsJob ended.end
    pub told : IfDone ended.end (Appends t.held t.holds version_line)
    pub only : IsOnlyWritten t

module _ {S : Type 0} (g : Ghosts S) (files : List ℕ → Option (List ℕ)) (Came : End → List Exchange → Type 0) (t : Streams)
    (ended : Ended) where
  -- what was done, by what is asked for
  abbrev pub DidAction : Action → Type 0
  DidAction (action.Do work) = Did g files Came work t ended
  DidAction action.Ask = Asked t ended
  DidAction action.Refuse = Refused t ended
  DidAction action.ShowVersion = ShowedVersion t ended

module _ {D : Type 0} {g : Disk D} (before : Image) (files : List ℕ → Option (List ℕ)) (Came : End → List Exchange → Type 0)
    (t : Streams) where
  -- what this did to the files, as an invocation; without a task there are none
  abbrev pub RanAction : Action → Option (Left D g) → Type 0
  RanAction (action.Do work) (Some rest) = RanOver before rest files Came t work
  RanAction (action.Do work) None = ⊥
  RanAction action.Ask rest = rest ≡ None
  RanAction action.Refuse rest = rest ≡ None
  RanAction action.ShowVersion rest = rest ≡ None

-- What was done for a job, whose words may name a socket.
module _ {S : Type 0} (g : Ghosts S) (Came : End → List Exchange → Type 0) (j : Job) (socket : Option Socket) (t : Streams)
    (ended : Ended) where
  -- just what the job asks for
  pub record DidAsked : Type 0 where
    pub asked : Action
    pub is : IsActionOf j socket asked
    pub did : DidAction g unknown_files Came t ended asked

  -- nothing, since memory ran out for the words of a load
  pub record DidNothing : Type 0 where
    pub load : IsOfLoad j
    pub end : ended.end ≡ finish.Fault fault.Memory
    pub untouched : IsUntouched t

  -- the one or the other
  abbrev pub DidCall : Type 0
  DidCall = DidNothing ⊎ DidAsked

-- The end of a job: what it read and printed where it was done, what it noted, and that a word that is no number of a journey is
-- refused.
pub record EndsCall (j : Job) (t : Streams) (ended : Ended) : Type 0 where
  pub job : EndsJob ended.end
  pub read : IfDone ended.end (ReadsFor j t.input t.rest)
  pub told : IfDone ended.end (TellsOf j t.held t.holds)
  pub notes : MayNoteAll t.noted t.notes
  pub bad_id : HasBadId j → ended.end ≡ finish.Refused refusal.BadBody
  pub untold : HasBadId j → Keeps t.held t.holds

-- What is printed on standard error, where that had `held` and has `holds`.
module _ (held holds noted notes : Option (List ℕ)) (ended : Ended) where
  -- the text of the end alone
  pub record TellsEnd : Type 0 where
    pub told : TellsError ended.end held holds

  -- what was noted, and then the text of the end and its cause
  pub record ExplainsEnd : Type 0 where
    pub first : noted ≡ held
    pub explained : Explains ended.end ended.cause notes holds

-- What a job asks for was done, and how it ended was printed, with this exit status. `input` and `rest`, `held` and `holds` are
-- the bytes of the input and of the output, before and after; `Tells` says what is on standard error, from what was noted.
pub record Performs {S : Type 0} (g : Ghosts S) (Came : End → List Exchange → Type 0)
    (Tells : (noted notes : Option (List ℕ)) → Ended → Type 0) (j : Job) (socket : Option Socket)
    (input rest held holds : Option (List ℕ)) (status : ℕ) : Type 0 where
  pub ended : Ended
  pub noted : Option (List ℕ)
  pub notes : Option (List ℕ)
  pub printed : Option (List ℕ)
  pub did : DidCall g Came j socket (streams input rest held printed noted notes) ended
  pub told : WroteFront printed holds (told_out ended.end)
  pub errors : Tells noted notes ended
  pub exits : status ≡ status_of ended.end
