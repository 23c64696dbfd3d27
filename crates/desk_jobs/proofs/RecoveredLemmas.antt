-- The answers of a desk that was recovered are those over the recovery of what its connection represented. For run_over.
use Rattle.std.proofs.Common.{◌≤◌, inl, inr, sym, subst, ℕ, List, Option, IfSome, arith}
use Rattle.sqlite.specs.Store.{Ghosts}
use Rattle.sqlite.specs.Held.{Held, state}
use Rattle.sqlite.specs.State.{HasCleanDisk}
use Rattle.ledger.specs.Answer.{State}
use Rattle.recovery.specs.Growing.{Grew, room_of}
use Rattle.recovery.specs.Recovers.{AreRecovery, HasOneRecovery, IsRecovery}
use Rattle.reports.proofs.FrontLemmas.{front_none}
use Rattle.program_ends.specs.Ends.{IfDone}
use Rattle.program_ends.specs.declared.ends.End.{End}
use Rattle.saga_core.specs.Written.{WroteFront}
use Rattle.saga_core.proofs.ByteLemmas.{keeps_same}
use Rattle.tables.specs.declared.books.TableBook.{TableBook}
use Rattle.desk_jobs.specs.Jobs.{NotesRun, Readies}
use Rattle.desk_jobs.specs.Notes.{recovered_note, NotesEvents}
use Rattle.desk_jobs.specs.Running.{AnswersFrontAfterRecovery}

-- what follows where all was done
pub done_as : {P Q : Type 0} (e : End) → (P → Q) → IfDone e P → IfDone e Q
done_as e follows holds = grind (arith, follows)

-- the events that recovery appended are the recovery of the state
pub recovery_of : {stands : State → Type 0} (s : State) (made : ℕ) (grew : Grew stands (AreRecovery s.ledger) s made)
    → IsRecovery s grew.events
recovery_of s made grew =
    record { are = grew.are; within = subst (λ n. n ≤ room_of s) (sym grew.counted) grew.within }

-- the recovery was noted: the note says how many events it has
pub recovery_noted : {S : Type 0} (g : Ghosts S) (old new : Held S) (b : TableBook S g) (made : ℕ) → Readies g old b made
    → (HasCleanDisk (state g new) → HasCleanDisk (state g b.conn)) → (noted notes : Option (List ℕ)) → NotesEvents made noted notes
    → NotesRun g old new noted notes
recovery_noted g old new b made ready back noted notes events = record {
  noted = λ clean s was. (
      let grew = ready.recovered (back clean) s was in
      elim events.either [
        | inl kept ↦ inl kept
        | inr wrote ↦ inr (
          grew.events,
          recovery_of s made grew,
          subst (λ n. WroteFront noted notes (recovered_note n)) (sym grew.counted) wrote,
        )
      ]);
  may = events.some;
}

-- nothing was noted
pub unnoted : {S : Type 0} (g : Ghosts S) (old new : Held S) (noted : Option (List ℕ)) → NotesRun g old new noted noted
unnoted g old new noted = record { noted = λ clean s was. inl (keeps_same noted); may = inl (keeps_same noted) }

-- where nothing was written
pub front_without_recovery : (held : Option (List ℕ)) (s : State) (known : Option (List ℕ)) → HasOneRecovery s
    → IfSome known (AnswersFrontAfterRecovery held held s)
front_without_recovery held s known one = grind (arith, front_none)
