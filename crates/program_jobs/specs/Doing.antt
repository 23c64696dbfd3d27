-- What is done over a file: a task, over a connection to it, which is then closed.
use Rattle.std.specs.Prelude.{◌⊎◌, ℕ, List, Option}
use Rattle.sqlite.specs.Store.{Ghosts}
use Rattle.sqlite.specs.Held.{Held}
use Rattle.program_ends.specs.Ends.{EndsBadly, EndsJob}
use Rattle.http_conversations.specs.Worlds.{Exchange}
use Rattle.program_ends.specs.declared.ended.Ended.{Ended}
use Rattle.program_ends.specs.declared.ends.End.{End}
use Rattle.program_jobs.specs.Outcomes.{Closes}
use Rattle.program_jobs.specs.Streams.{IsUntouched, Streams}
use Rattle.program_jobs.specs.Tasks.{Does}
use Rattle.program_jobs.specs.declared.outcomes.Outcome.{Outcome}
use Rattle.program_jobs.specs.declared.tasks.Task.{Task}

-- the file could not be opened, and nothing was done
pub record IsUnopened (t : Streams) (ended : Ended) : Type 0 where
  pub bad : EndsBadly ended.end
  pub untouched : IsUntouched t

module _ {S : Type 0} (g : Ghosts S) (files : List ℕ → Option (List ℕ)) (Came : End → List Exchange → Type 0) (work : Task)
    (t : Streams) (ended : Ended) where
  -- the task was done over a connection, which was then closed
  pub record DidOver : Type 0 where
    pub old : Held S
    pub new : Held S
    pub outcome : Outcome
    pub written : Option (List ℕ)
    pub does : Does g old new (record t { holds = written }) files Came work outcome
    pub closed : Ended
    pub ends : EndsJob closed.end
    pub closes : Closes outcome closed written t.holds ended

  -- the one or the other
  abbrev pub Did : Type 0
  Did = IsUnopened t ended ⊎ DidOver
