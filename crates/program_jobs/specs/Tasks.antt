-- What a job does over a connection, by its task: what is recoverable after it, what it read, wrote and noted, and its end.
use Rattle.std.specs.Prelude.{◌≡◌, ℕ, List, Option, Some, option_map}
use Rattle.std.specs.Io.KnownBytes.{IsAtEnd}
use Rattle.std.specs.String.{string_bytes}
use Rattle.sqlite.specs.Store.{Ghosts}
use Rattle.sqlite.specs.Held.{Held, state}
use Rattle.sqlite.specs.State.{HasCleanDisk}
use Rattle.desk_sql.specs.declared.versions.Version.{Version}
use Rattle.ledger.specs.Answer.{State}
use Rattle.recovery.specs.Recovers.{Recovers}
use Rattle.http_conversations.specs.Worlds.{Exchange}
use Rattle.tables.specs.Indexing.{HasIndex}
use Rattle.tables.specs.Outcomes.{Migrates}
use Rattle.desk_jobs.specs.Executions.{StandsStill}
use Rattle.desk_jobs.specs.Openings.{Lines, Nothing}
use Rattle.desk_jobs.specs.Connections.{Represents, RepresentsIn}
use Rattle.program_ends.specs.Causes.{cause_of_end, cause_of_load}
use Rattle.program_ends.specs.Ends.{IfDone}
use Rattle.program_ends.specs.declared.ends.End.{End}
use Rattle.desk_jobs.specs.Following.{Follows}
use Rattle.desk_jobs.specs.Jobs.{EndsRun, NotReady, NotesRun, RunsOver}
use Rattle.desk_jobs.specs.Migrating.{FailsIndex, FailsMigration}
use Rattle.saga_core.specs.declared.report.Report.{Report}
use Rattle.program_jobs.specs.Jobs.{EndsReport, FailsReport, KeepsDesk, RefusesToShow}
use Rattle.program_jobs.specs.Loads.{Loads}
use Rattle.program_jobs.specs.Outcomes.{HasEnded, IsReported, end_of}
use Rattle.program_jobs.specs.Reporting.{Reports}
use Rattle.program_jobs.specs.Serving.{Serves}
use Rattle.program_jobs.specs.Streams.{IsOnlyWritten, IsUntouched, Streams}
use Rattle.program_jobs.specs.declared.outcomes.Count.TheVariants as count
use Rattle.program_jobs.specs.declared.outcomes.Outcome.{Outcome}
use Rattle.program_jobs.specs.declared.outcomes.Outcome.TheVariants as outcome
use Rattle.program_jobs.specs.declared.tasks.Task.{Task}
use Rattle.program_jobs.specs.declared.tasks.Task.TheVariants as task

module _ {S : Type 0} (g : Ghosts S) (old new : Held S) where
  -- the desk was recovered, and the new events are counted; or it was not
  abbrev pub HasRecovered : Outcome → Type 0
  HasRecovered (outcome.Counted (count.Recovered made)) =
      HasCleanDisk (state g new) → Recovers (Represents g old) (Represents g new) made
  HasRecovered (outcome.Ended ended) = HasEnded cause_of_end (NotReady g old new) (outcome.Ended ended)
  HasRecovered _ = ⊥

  -- the tables were migrated, and the events are counted; or they were not
  abbrev pub HasMigrated : Outcome → Type 0
  HasMigrated (outcome.Counted (count.Migrated m)) = Migrates g old new m.events
  HasMigrated (outcome.Ended ended) = HasEnded cause_of_end (FailsMigration g old new) (outcome.Ended ended)
  HasMigrated _ = ⊥

  -- the tables have the index, and the journeys are counted; or they have not
  abbrev pub HasIndexed : Outcome → Type 0
  HasIndexed (outcome.Counted (count.Indexed i)) = HasIndex g old new i
  HasIndexed (outcome.Ended ended) = HasEnded cause_of_end (FailsIndex g old new) (outcome.Ended ended)
  HasIndexed _ = ⊥

  -- A recovery, to which nothing came.
  pub record CountsRecovery (o : Outcome) : Type 0 where
    pub counted : HasRecovered o
    pub follows : (held : Option (List ℕ)) → Follows g old new (Some Nothing) held held (end_of o)

  -- A migration, and an index: each leaves the desk as it was.
  pub record CountsMigration (o : Outcome) : Type 0 where
    pub counted : HasMigrated o
    pub follows : HasCleanDisk (state g new) → StandsStill g old new

  pub record CountsIndex (o : Outcome) : Type 0 where
    pub counted : HasIndexed o
    pub follows : HasCleanDisk (state g new) → StandsStill g old new

  module _ (t : Streams) where
    -- a run: all lines were answered where it is done, and a prefix of the answers was written in any case
    pub record Runs (e : End) : Type 0 where
      pub answers : RunsOver g old new t.input t.held t.holds e
      pub read : IfDone e (IsAtEnd t.rest)
      pub notes : NotesRun g old new t.noted t.notes
      pub follows : Follows g old new (option_map Lines t.input) t.held t.holds e
      pub ends : EndsRun g old new e

    -- a report: just its text was written where it is done, and a prefix of it in any case; nothing changed
    pub record Shows (report : Report) (o : Outcome) : Type 0 where
      pub told : HasCleanDisk (state g new) → (v : Version) (s : State) → RepresentsIn g old v s
          → Reports t.held t.holds report (end_of o) s
      pub ends : EndsReport (RefusesToShow g old new report) (end_of o)
      pub fails : FailsReport g old new (end_of o)
      pub keeps : KeepsDesk g old new
      pub shown : IsReported o
      pub only : IsOnlyWritten t

    module _ (files : List ℕ → Option (List ℕ)) (Came : End → List Exchange → Type 0) where
      -- a desk that serves ended so, and reads nothing
      abbrev pub HasServed : ℕ → Outcome → Type 0
      HasServed port (outcome.Ended ended) =
          Serves g Came port old new t.held t.holds t.noted t.notes ended × (t.rest ≡ t.input)
      HasServed port _ = ⊥

      -- what a job does, by its task
      abbrev pub Does : Task → Outcome → Type 0
      Does task.Run o = HasEnded cause_of_end Runs o
      Does (task.Serve port) o = HasServed port o
      Does task.Recover o = CountsRecovery o × IsUntouched t
      Does (task.Load source batch) o = HasEnded cause_of_load (Loads g old new t files source (string_bytes batch)) o
      Does (task.Report report) o = Shows report o
      Does task.Migrate o = CountsMigration o × IsUntouched t
      Does task.Index o = CountsIndex o × IsUntouched t
