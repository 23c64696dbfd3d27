-- What a run comes to, from how its desk came up and how its lines were answered. For run_over.
use Rattle.std.proofs.Common.{◌≡◌, ap, arith, ℕ, List, refl, Option, None, Some, Result, Ok, Err, IfSome, IfOk, IfErr, OnOk, IsErrOf, option_map}
use Rattle.sqlite.specs.Store.{Ghosts}
use Rattle.sqlite.specs.Held.{Held, state}
use Rattle.sqlite.specs.State.{HasCleanDisk}
use Rattle.desk_sql.specs.declared.versions.Version.TheVariants.{Two}
use Rattle.ledger.specs.Answer.{State}
use Rattle.recovery.specs.Growing.{Grew, with_events}
use Rattle.recovery.specs.Recovers.{AreRecovery}
use Rattle.saga_core.specs.Reasons.{FailsAmong}
use Rattle.saga_core.specs.Worlds.{GoesOnWith}
use Rattle.saga_core.specs.StreamScenes.{Scene, scene}
use Rattle.saga_core.specs.declared.serve_faults.ServeFault.{ServeFault}
use Rattle.saga_core.specs.declared.serve_faults.ServeFault.TheVariants as serve
use Rattle.reports.proofs.FrontLemmas.{front_whole}
use Rattle.tables.specs.Acting.{HasReasonSince, MayActSince}
use Rattle.tables.specs.BookTerms.{LeavesBook, StandsBook}
use Rattle.tables.specs.Making.{LetsGo}
use Rattle.tables.specs.declared.books.TableBook.{TableBook}
use Rattle.recovery.specs.Lines.{lines}
use Rattle.recovery.specs.Serving.{AnswersAll, AnswersSome}
use Rattle.recovery.specs.LineWorlds.{GoesOnAmongLines, asks_in}
use Rattle.program_ends.specs.Ends.{IfDone, fault_of_run}
use Rattle.program_ends.specs.declared.ends.End.TheVariants as finish
use Rattle.program_ends.specs.declared.faults.ProgramFault.TheVariants as fault
use Rattle.desk_jobs.specs.Connections.{Represents}
use Rattle.desk_jobs.specs.Ends.{end_of_run}
use Rattle.desk_jobs.specs.Following.{FollowsDesk}
use Rattle.desk_jobs.specs.Jobs.{EndsRun, Readies, RunsOver}
use Rattle.desk_jobs.specs.Openings.{Lines}
use Rattle.desk_jobs.specs.Running.{AnswersAfterRecovery, AnswersFront, AnswersFrontAfterRecovery}
use Rattle.desk_jobs.specs.Stages.{Stood}
use Rattle.desk_jobs.proofs.AnswerLemmas.{front_of_some}
use Rattle.desk_jobs.proofs.EndLemmas.{lines_fault, no_opening, not_of_opening}
use Rattle.desk_jobs.proofs.FollowLemmas.{leaves_follows, stands_follows}
use Rattle.desk_jobs.proofs.JobLemmas.{represented}
use Rattle.desk_jobs.proofs.KnownLemmas.{if_some_both, if_some_more}
use Rattle.desk_jobs.proofs.ReasonLemmas.{fails_after, fails_among_known, run_store}
use Rattle.desk_jobs.proofs.RecoveredLemmas.{recovery_of}
use Rattle.desk_jobs.proofs.StageLemmas.{lines_answered, stopped_at_line}

-- what holds where all lines were answered holds where all was done
pub run_done : (P : Type 0) (r : Result ℕ ServeFault) → OnOk r P → IfDone (end_of_run r) P
run_done P r holds = grind arith

run_failed : (r : Result ℕ ServeFault) → end_of_run r ≡ finish.Fault fault.Store → IsErrOf r serve.Store
run_failed (Ok count) is = absurd (let never = is in cc)
run_failed (Err f) is = ap (λ (x : ServeFault). Err x) (run_store f _ refl is)

-- a run over a recovered desk refuses nothing, and its fault is not that of an opening
pub run_ends : {S : Type 0} (g : Ghosts S) (old new : Held S) (r : Result ℕ ServeFault) → EndsRun g old new (end_of_run r)
run_ends g old new (Ok count) =
    record { opening = no_opening g old new finish.Done tt (λ why. (let never = why in cc)); fault = tt; job = tt }
run_ends g old new (Err f) =
    record { opening = no_opening g old new (finish.Fault (fault_of_run f)) tt (not_of_opening f _ refl); fault = lines_fault f; job = tt }

-- whatever the end, a prefix of the answers was written
front_of : (x : Scene) (s : State) (input : List ℕ) (r : Result ℕ ServeFault) → IfOk r (AnswersAll x s input)
    → IfErr r (AnswersSome x s input) → AnswersFront x.held x.holds s input
front_of x s input (Ok count) all some = front_whole x.held x.holds _ all.sent
front_of x s input (Err f) all some = front_of_some f x s input some

module _ {S : Type 0} (g : Ghosts S) (old new : Held S) (b now : TableBook S g) (made : ℕ) (ready : Readies g old b made) (gone : LetsGo g now new)
    (back : HasCleanDisk (state g now.conn) → HasCleanDisk (state g b.conn)) (held holds : Option (List ℕ)) where
  abbrev shown : Scene
  shown = scene held holds (StandsBook g now) (LeavesBook g now)

  abbrev AreAll : Option (List ℕ) → Result ℕ ServeFault → Type 0
  AreAll known r = HasCleanDisk (state g now.conn) → (s : State) → StandsBook g b s → IfSome known (λ input. IfOk r (AnswersAll shown s input))

  -- the answers are those over the recovery
  module _ (s : State) (grew : Grew (StandsBook g b) (AreRecovery s.ledger) s made) (input : List ℕ) where
    all_answered : (r : Result ℕ ServeFault) → IfOk r (AnswersAll shown (with_events s grew.events) input)
        → IfDone (end_of_run r) (AnswersAfterRecovery held holds (Represents g new) s input)
    all_answered (Ok count) all = record {
      events = grew.events;
      is = recovery_of s made grew;
      answers = record { sent = all.sent; left = represented g now new gone _ all.left };
    }
    all_answered (Err f) all = tt

    some_answered : (r : Result ℕ ServeFault) → IfOk r (AnswersAll shown (with_events s grew.events) input)
        → IfErr r (AnswersSome shown (with_events s grew.events) input) → AnswersFrontAfterRecovery held holds s input
    some_answered r all some =
        record { events = grew.events; is = recovery_of s made grew; front = front_of shown (with_events s grew.events) input r all some }

  pub run_answers : (known : Option (List ℕ)) (r : Result ℕ ServeFault) → AreAll known r
      → (HasCleanDisk (state g now.conn) → (s : State) → StandsBook g b s → IfSome known (λ input. IfErr r (AnswersSome shown s input)))
      → (HasCleanDisk (state g now.conn) → (first : TableBook S g) → IsErrOf r serve.Store
      → IfSome known (λ input. FailsAmong (MayActSince g first b) (HasReasonSince g first now) (asks_in (lines input))))
      → RunsOver g old new known held holds (end_of_run r)
  run_answers known r all some reason = record {
    all = λ clean s was. (
        let grew = ready.recovered (back (gone.sound clean)) s was in
        if_some_more known _ _ (λ input. all_answered s grew input r) (all (gone.sound clean) _ grew.stands_there));
    front = λ clean s was. (
        let grew = ready.recovered (back (gone.sound clean)) s was in
        if_some_both known _ _ _ (λ input. some_answered s grew input r) (all (gone.sound clean) _ grew.stands_there)
        (some (gone.sound clean) _ grew.stands_there));
    reason = λ clean why. fails_after g old new (λ input. asks_in (lines input)) b made known (ready.may_act (back (gone.sound clean)))
        (fails_among_known g b now new gone.same known (λ input. asks_in (lines input)) (λ first.
        reason (gone.sound clean) first (run_failed r why)));
  }

  -- the connection stands for the end of what the lines ask for; at a fault what is left of the book is left of its connection
  pub run_follows : (known : Option (List ℕ)) (r : Result ℕ ServeFault) → AreAll known r
      → (HasCleanDisk (state g now.conn) → IfSome known (λ input. OnOk r (GoesOnWith (StandsBook g b) (StandsBook g now) (LeavesBook g now)
      (asks_in (lines input)))))
      → (HasCleanDisk (state g now.conn) → IfSome known (λ input. IfErr r (GoesOnAmongLines (StandsBook g b) shown input)))
      → FollowsDesk g b new (option_map Lines known) held holds (end_of_run r)
  run_follows None r all goes stops = record { left = λ clean. tt; there = λ clean. tt }
  run_follows (Some input) (Ok count) all goes stops =
      stands_follows g b new (Some (Lines input)) held holds finish.Done (λ clean w here.
      lines_answered shown w (Stood (state g new)) (λ s stands. (Two, gone.found s stands)) input count (goes (gone.sound clean) w here)
      (all (gone.sound clean) _ here.stands_there))
  run_follows (Some input) (Err f) all goes stops =
      leaves_follows g b new (Some (Lines input)) held holds (finish.Fault (fault_of_run f)) tt (λ clean w here.
      stopped_at_line shown (state g new) clean gone.left w input f (stops (gone.sound clean) w here))
