-- What a task over a file came to, as an invocation. For `do_over_file`.
use Rattle.std.proofs.Common.{sym, subst, inl, inr, ℕ, List, Option, Some}
use Rattle.std.specs.Prelude.{◌⊎◌, option_map}
use Rattle.std.specs.String.{string_bytes}
use Rattle.sqlite_disk.specs.declared.Disk as disk
use Rattle.sqlite_store.specs.declared.store.FileStore.{FileStore}
use Rattle.sqlite_wal.specs.Recovery.{Image}
use Rattle.sqlite.specs.Files.{file_state, over_files}
use Rattle.sqlite.specs.Held.{Held}
use Rattle.sqlite.specs.State.{HasCleanDisk}
use Rattle.sql_model.specs.Openings.{StandsAsOpened}
use Rattle.program_ends.specs.Causes.{cause_of_end, cause_of_load}
use Rattle.program_ends.specs.declared.ends.End.{End}
use Rattle.program_ends.specs.Images.{Closes, LeavesAsFound, OpensOver}
use Rattle.program_ends.specs.declared.closing.Left.{Left}
use Rattle.desk_jobs.specs.Executions.{EachMayReopen, StandsStill}
use Rattle.desk_jobs.specs.Openings.{Connections, File, Input, Lines, Nothing}
use Rattle.desk_jobs.specs.Following.{Follows}
use Rattle.desk_jobs.specs.Jobs.{Leaves}
use Rattle.desk_jobs.proofs.FollowLemmas.{lines_unserved}
use Rattle.program_jobs.specs.Jobs.{KeepsDesk}
use Rattle.program_jobs.specs.Loads.{Loads}
use Rattle.program_jobs.specs.Outcomes.{end_of}
use Rattle.program_jobs.specs.Streams.{IsUntouched, Streams}
use Rattle.program_jobs.specs.Tasks.{CountsRecovery, Does, HasServed, Runs}
use Rattle.http_conversations.specs.Worlds.{Exchange}
use Rattle.program_jobs.specs.declared.outcomes.Outcome.{Outcome}
use Rattle.program_jobs.specs.declared.outcomes.Outcome.TheVariants as outcome
use Rattle.program_jobs.specs.declared.tasks.Source.{Source}
use Rattle.program_jobs.specs.declared.tasks.Task.{Task}
use Rattle.program_jobs.specs.declared.tasks.Task.TheVariants as task
use Rattle.program_jobs.specs.Invocations.{asked, unasked, RanTo}
use Rattle.program_jobs.specs.InvokedTasks.{RanBytes, RanExchanges, RanTask}
use Rattle.program_jobs.proofs.OutcomeLemmas.{ended_only}
use Rattle.program_jobs.proofs.ComposeLemmas.{follows_ran, late_ran, ran_over, ran_still, shown_over, still_over}

module _ {D : Type 0} {g : disk.Ghosts D} (law : EachMayReopen) (first : Image) (rest : Left D g)
    (files : List ℕ → Option (List ℕ)) (Came : End → List Exchange → Type 0) where
  -- over a file that could not be opened nothing was done
  pub unopened_ran : LeavesAsFound first rest → (t : Streams) (work : Task)
      → RanTask first rest files Came (record t { holds = t.held }) work
  unopened_ran same t task.Run = late_ran law first rest t.held (option_map Lines t.input) (lines_unserved t.input) same
  unopened_ran same t (task.Serve port) = inl (late_ran law first rest t.held (Some Nothing) tt same)
  unopened_ran same t task.Recover = late_ran law first rest t.held (Some Nothing) tt same
  unopened_ran same t (task.Load source batch) = inl (late_ran law first rest t.held (Some Nothing) tt same)
  unopened_ran same t (task.Report report) = ran_still first rest t.held t.held same
  unopened_ran same t task.Migrate = ran_still first rest t.held t.held same
  unopened_ran same t task.Index = ran_still first rest t.held t.held same

  -- over one that was opened the job over its connection was done
  module _ (old new : Held (FileStore D g)) (openings : StandsAsOpened over_files old)
      (opens : HasCleanDisk (file_state old) → OpensOver first old) (leaves : Leaves over_files old new) (closes : Closes new rest)
      (t : Streams) where
    asked_ran : (input : Input) (held holds : Option (List ℕ)) (e : End) → Follows over_files old new (Some input) held holds e
        → RanTo (asked input held holds) first rest
    asked_ran input held holds e follows =
        follows_ran first old openings opens new rest (Some input) held holds leaves.sound follows.left closes

    load_ran : (source : Source) (name : List ℕ) (e : End) → Loads over_files old new t files source name e
        → RanTo (asked Nothing t.held t.holds) first rest ⊎ RanBytes first rest files Came t source name
    load_ran source name e loads = elim loads.either [
      | inl nothing ↦ inl (asked_ran Nothing t.held t.holds e nothing.follows)
      | inr loaded ↦ inr (record {
        bytes = loaded.bytes;
        read = loaded.read;
        ran = asked_ran (File name loaded.bytes) t.held t.holds e loaded.follows;
      })
    ]

    serve_ran : (port : ℕ) (o : Outcome) → HasServed over_files old new t files Came port o
        → RanTo (asked Nothing t.held t.held) first rest ⊎ RanExchanges first rest files Came t
    serve_ran port (outcome.Ended ended) has = elim has.0.either [
      | inl nobody ↦ inl (asked_ran Nothing t.held t.held ended.end (nobody.goes t.held))
      | inr guests ↦ inr (record {
        end = ended.end;
        exchanges = guests.exchanges;
        came = guests.came;
        ran = asked_ran (Connections guests.exchanges) t.held t.held ended.end (guests.goes t.held);
      })
    ]
    serve_ran port outcome.Shown has = absurd has
    serve_ran port (outcome.Counted c) has = absurd has

    recover_ran : (o : Outcome) → CountsRecovery over_files old new o → IsUntouched t
        → RanTo (asked Nothing t.held t.holds) first rest
    recover_ran o counts untouched =
        subst (λ holds. RanTo (asked Nothing t.held holds) first rest) (sym untouched.unwritten)
        (asked_ran Nothing t.held t.held (end_of o) (counts.follows t.held))

    still_ran : (HasCleanDisk (file_state new) → StandsStill over_files old new) → RanTo (unasked t.held t.holds) first rest
    still_ran still =
        ran_over first old openings opens new rest (unasked t.held t.holds) leaves.sound
        (λ clean. still_over over_files old new t.held t.holds (still clean)) closes

    shown_ran : KeepsDesk over_files old new → RanTo (unasked t.held t.holds) first rest
    shown_ran keeps =
        ran_over first old openings opens new rest (unasked t.held t.holds) leaves.sound
        (λ clean. shown_over over_files old new t.held t.holds law clean (keeps.same clean)) closes

    pub task_ran : (work : Task) (o : Outcome) → Does over_files old new t files Came work o → RanTask first rest files Came t work
    task_ran (task.Serve port) o does = serve_ran port o does
    task_ran task.Run o does = ended_only cause_of_end (Runs over_files old new t) (λ _. RanTask first rest files Came t task.Run) o does (λ ended runs.
        follows_ran first old openings opens new rest (option_map Lines t.input) t.held t.holds leaves.sound runs.follows.left closes)
    task_ran task.Recover o does = recover_ran o does.0 does.1
    task_ran (task.Load source batch) o does =
        ended_only cause_of_load (Loads over_files old new t files source (string_bytes batch))
        (λ _. RanTask first rest files Came t (task.Load source batch)) o does (λ ended. load_ran source (string_bytes batch) ended.end)
    task_ran (task.Report report) o does = shown_ran does.keeps
    task_ran task.Migrate o does = still_ran does.0.follows
    task_ran task.Index o does = still_ran does.0.follows
