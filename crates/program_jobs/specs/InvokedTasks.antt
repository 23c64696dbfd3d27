-- A task of the program over the file of a desk, as an invocation.
use Rattle.std.specs.Prelude.{◌⊎◌, ℕ, List, Option, IfSome, option_map}
use Rattle.std.specs.String.{string_bytes}
use Rattle.sqlite_disk.specs.declared.Disk.{Ghosts as Disk}
use Rattle.sqlite_wal.specs.Recovery.{Image}
use Rattle.program_ends.specs.declared.closing.Left.{Left}
use Rattle.http_conversations.specs.Worlds.{Exchange}
use Rattle.desk_jobs.specs.Openings.{Connections, File, Lines, Nothing}
use Rattle.program_ends.specs.declared.ends.End.{End}
use Rattle.program_jobs.specs.Sources.{AreReadFrom}
use Rattle.program_jobs.specs.Streams.{Streams}
use Rattle.program_jobs.specs.declared.tasks.Source.{Source}
use Rattle.program_jobs.specs.declared.tasks.Task.{Task}
use Rattle.program_jobs.specs.declared.tasks.Task.TheVariants as task
use Rattle.program_jobs.specs.Invocations.{asked, unasked, RanTo}

module _ {D : Type 0} {g : Disk D} (before : Image) (rest : Left D g) (files : List ℕ → Option (List ℕ))
    (Came : End → List Exchange → Type 0) (t : Streams) where
  -- these exchanges were carried out until serving ended so; none of their answers went to the output
  pub record RanExchanges : Type 0 where
    pub end : End
    pub exchanges : List Exchange
    pub came : Came end exchanges
    pub ran : RanTo (asked (Connections exchanges) t.held t.held) before rest

  -- a load read these bytes of its source, and they came to the desk under this name
  pub record RanBytes (source : Source) (name : List ℕ) : Type 0 where
    pub bytes : List ℕ
    pub read : AreReadFrom files t.input source bytes
    pub ran : RanTo (asked (File name bytes) t.held t.holds) before rest

  -- What an invocation with this task did to what the files held. What came to the desk is the lines of a run, if they are known, the
  -- exchanges with those who were served, if anybody was, and the file of a load, unless it was not read; other tasks ask nothing of it.
  abbrev pub RanTask : Task → Type 0
  RanTask task.Run = IfSome (option_map Lines t.input) (λ lines. RanTo (asked lines t.held t.holds) before rest)
  RanTask (task.Serve port) = RanTo (asked Nothing t.held t.held) before rest ⊎ RanExchanges
  RanTask task.Recover = RanTo (asked Nothing t.held t.holds) before rest
  RanTask (task.Load source batch) =
      RanTo (asked Nothing t.held t.holds) before rest ⊎ RanBytes source (string_bytes batch)
  RanTask (task.Report report) = RanTo (unasked t.held t.holds) before rest
  RanTask task.Migrate = RanTo (unasked t.held t.holds) before rest
  RanTask task.Index = RanTo (unasked t.held t.holds) before rest

-- The same, where the output had this before the connection was closed and a count was printed.
pub record RanOver {D : Type 0} {g : Disk D} (before : Image) (rest : Left D g) (files : List ℕ → Option (List ℕ))
    (Came : End → List Exchange → Type 0) (t : Streams) (work : Task) : Type 0 where
  pub written : Option (List ℕ)
  pub ran : RanTask before rest files Came (record t { holds = written }) work
