-- What a load does over a connection, from how its desk came up and what it did there. For `loading`.
use Rattle.std.proofs.Common.{refl, inl, ℕ, List, Option, Some, Result, Ok, Err}
use Rattle.sqlite.specs.Store.{Ghosts}
use Rattle.sqlite.specs.Held.{Held}
use Rattle.commands.specs.BatchData.{Batched}
use Rattle.allotment_csv.specs.declared.faults.CsvFault.{CsvFault}
use Rattle.ledger.specs.Answer.{State}
use Rattle.recovery.specs.Growing.{Grew}
use Rattle.recovery.specs.Reasons.{MayActThen}
use Rattle.recovery.specs.Recovers.{AreRecovery}
use Rattle.saga_core.specs.Runs.{Asks}
use Rattle.desk_jobs.specs.Executions.{EachMayReopen}
use Rattle.desk_jobs.specs.Openings.{Nothing, asks_of_file}
use Rattle.program_ends.specs.declared.ends.End.{End}
use Rattle.tables.specs.BookTerms.{StandsBook}
use Rattle.tables.specs.declared.books.TableBook.{TableBook}
use Rattle.desk_jobs.specs.Jobs.{NotReady}
use Rattle.desk_jobs.specs.Reasons.{FailsToLoadFor, FailsToRun, MayActFrom, MayStart}
use Rattle.desk_jobs.proofs.FollowLemmas.{follows_not_up}
use Rattle.desk_jobs.proofs.ReasonLemmas.{fails_after}
use Rattle.desk_jobs.proofs.RecoveredLemmas.{unnoted}
use Rattle.program_jobs.specs.Loads.{Loads}
use Rattle.program_jobs.specs.Streams.{streams}
use Rattle.program_jobs.specs.declared.tasks.Source.{Source}

-- a load that failed with its desk failed after the recovery
pub fails_after_load : {S : Type 0} (g : Ghosts S) (old new : Held S) (b : TableBook S g) (made : ℕ) (read : Result Batched CsvFault)
    → ((later : Asks) (s : State) → MayStart g old later s
    → Grew (MayActThen (StandsBook g b) (MayActFrom g old b) later) (AreRecovery s.ledger) s made)
    → FailsToLoadFor g b new read → FailsToRun g old new (asks_of_file read)
fails_after_load g old new b made (Ok batch) recovers fails =
    fails_after g old new (λ (read : Result Batched CsvFault). asks_of_file read) b made (Some (Ok batch)) recovers fails
fails_after_load g old new b made (Err wrong) recovers fails = absurd fails

-- the desk was not recovered
pub loads_not_ready : EachMayReopen → {S : Type 0} (g : Ghosts S) (old new : Held S) (files : List ℕ → Option (List ℕ)) (from : Source)
    (name : List ℕ) (input held noted : Option (List ℕ)) (end : End) → NotReady g old new end
    → Loads g old new (streams input input held held noted noted) files from name end
loads_not_ready law g old new files from name input held noted end failed = record {
  read = λ other. refl;
  either = inl (record {
    why = inl (failed, record { unread = refl; unnoted = refl }, refl);
    follows = follows_not_up g old new (Some Nothing) held end law failed.left failed.bad tt;
    bad = failed.bad;
    notes = unnoted g old new noted;
  });
}
