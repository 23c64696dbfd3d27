-- The outcome of a job, from the end of what it did. For `jobs`, and for who closes the connection then.
use Rattle.std.proofs.Common.{refl, arith, ℕ, List, Option, Some, Result, Ok, Err, IfOk, IfErr}
use Rattle.std.specs.String.{string_bytes}
use Rattle.sqlite.specs.Store.{Ghosts}
use Rattle.sqlite.specs.Held.{Held, state}
use Rattle.sqlite.specs.State.{HasCleanDisk}
use Rattle.recovery.specs.Recovers.{Recovers}
use Rattle.desk_jobs.specs.Openings.{Nothing}
use Rattle.desk_jobs.specs.Connections.{Represents}
use Rattle.desk_jobs.specs.Executions.{StandsStill}
use Rattle.desk_jobs.specs.Following.{Follows, end_of_recovery}
use Rattle.desk_jobs.specs.Jobs.{NotReady}
use Rattle.desk_jobs.specs.Migrating.{FailsIndex, FailsMigration}
use Rattle.desk_jobs.proofs.EndLemmas.{bad_job}
use Rattle.tables.specs.Indexing.{HasIndex}
use Rattle.tables.specs.Outcomes.{Migrates}
use Rattle.tables.specs.declared.indexing.Indexed.{Indexed}
use Rattle.tables.specs.declared.migrating.Migrated.{Migrated}
use Rattle.program_ends.specs.Causes.{cause_of_end, cause_of_load}
use Rattle.program_ends.specs.Ends.{EndsJob}
use Rattle.program_ends.specs.declared.causes.Cause.{Cause}
use Rattle.program_ends.specs.declared.ended.Ended.{Ended}
use Rattle.program_ends.specs.declared.ends.End.{End}
use Rattle.program_jobs.specs.Loads.{Loads}
use Rattle.program_jobs.specs.Outcomes.{HasEnded, end_of, outcome_of}
use Rattle.program_jobs.specs.Streams.{IsUntouched, Streams, streams}
use Rattle.program_jobs.specs.Tasks.{CountsIndex, CountsMigration, CountsRecovery, Does, HasIndexed, HasMigrated, HasRecovered, HasServed, Runs}
use Rattle.http_conversations.specs.Worlds.{Exchange}
use Rattle.program_jobs.specs.declared.outcomes.Count.TheVariants as count
use Rattle.program_jobs.specs.declared.outcomes.Outcome.{Outcome}
use Rattle.program_jobs.specs.declared.outcomes.Outcome.TheVariants as outcome
use Rattle.program_jobs.specs.declared.tasks.Source.{Source}
use Rattle.program_jobs.specs.declared.tasks.Task.{Task}
use Rattle.program_jobs.specs.declared.tasks.Task.TheVariants as task

-- what is known of a job that ended so is known of the outcome
pub ended_only : (cause : End → Option Cause) (So : End → Type 0) (P : Outcome → Type 0) (o : Outcome) → HasEnded cause So o
    → ((ended : Ended) → So ended.end → P (outcome.Ended ended)) → P o
ended_only cause So P (outcome.Ended ended) has so = so ended has.1
ended_only cause So P outcome.Shown has so = absurd has
ended_only cause So P (outcome.Counted c) has so = absurd has

-- a job that counts: what it counted, or why it failed
module _ {S : Type 0} (g : Ghosts S) (old new : Held S) where
  pub recovery_counted : (r : Result ℕ End)
      → (HasCleanDisk (state g new) → IfOk r (λ made. Recovers (Represents g old) (Represents g new) made)) → IfErr r (NotReady g old new)
      → ((held : Option (List ℕ)) → Follows g old new (Some Nothing) held held (end_of_recovery r))
      → CountsRecovery g old new (outcome_of (λ made. count.Recovered made) r)
  recovery_counted (Ok made) recovered failed follows = record { counted = recovered; follows = follows }
  recovery_counted (Err e) recovered failed follows = record { counted = (refl, failed); follows = follows }

  pub migration_counted : (r : Result Migrated End) → IfOk r (λ m. Migrates g old new m.events) → IfErr r (FailsMigration g old new)
      → (HasCleanDisk (state g new) → StandsStill g old new) → CountsMigration g old new (outcome_of (λ events. count.Migrated events) r)
  migration_counted (Ok m) migrated failed still = record { counted = migrated; follows = still }
  migration_counted (Err e) migrated failed still = record { counted = (refl, failed); follows = still }

  pub index_counted : (r : Result Indexed End) → IfOk r (HasIndex g old new) → IfErr r (FailsIndex g old new)
      → (HasCleanDisk (state g new) → StandsStill g old new) → CountsIndex g old new (outcome_of (λ journeys. count.Indexed journeys) r)
  index_counted (Ok i) indexed failed still = record { counted = indexed; follows = still }
  index_counted (Err e) indexed failed still = record { counted = (refl, failed); follows = still }

-- streams that a job had no part in
pub untouched : (input held noted : Option (List ℕ)) → IsUntouched (streams input input held held noted noted)
untouched input held noted = record { only = record { unread = refl; unnoted = refl }; unwritten = refl }

module _ {S : Type 0} (g : Ghosts S) (old new : Held S) where
  recovered_job : (o : Outcome) → HasRecovered g old new o → EndsJob (end_of o)
  recovered_job o has = grind (arith, bad_job)

  migrated_job : (o : Outcome) → HasMigrated g old new o → EndsJob (end_of o)
  migrated_job o has = grind (arith, bad_job)

  indexed_job : (o : Outcome) → HasIndexed g old new o → EndsJob (end_of o)
  indexed_job o has = grind (arith, bad_job)

  module _ (t : Streams) (files : List ℕ → Option (List ℕ)) (Came : End → List Exchange → Type 0) where
    loads_job : (from : Source) (name : List ℕ) (e : End) → Loads g old new t files from name e → EndsJob e
    loads_job from name e loads = grind (arith, bad_job)

    serves_job : (port : ℕ) (o : Outcome) → HasServed g old new t files Came port o → EndsJob (end_of o)
    serves_job port o has = grind (arith, bad_job)

    -- what a job does, whatever its task, it ends as a job
    pub does_job : (work : Task) (o : Outcome) → Does g old new t files Came work o → EndsJob (end_of o)
    does_job (task.Serve port) o does = serves_job port o does
    does_job task.Run o does = ended_only cause_of_end (Runs g old new t) (λ x. EndsJob (end_of x)) o does (λ ended runs. runs.ends.job)
    does_job task.Recover o does = recovered_job o does.0.counted
    does_job (task.Load from batch) o does =
        ended_only cause_of_load (Loads g old new t files from (string_bytes batch)) (λ x. EndsJob (end_of x)) o does
        (λ ended. loads_job from (string_bytes batch) ended.end)
    does_job (task.Report report) o does = does.ends.job
    does_job task.Migrate o does = migrated_job o does.0.counted
    does_job task.Index o does = indexed_job o does.0.counted
