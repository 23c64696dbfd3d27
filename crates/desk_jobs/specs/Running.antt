-- The answers to the lines of an input, over a state and over its recovery.
use Rattle.std.specs.Prelude.{◌⊎◌, ℕ, List, length, Option}
use Rattle.std.specs.Io.KnownBytes.{Appends, Keeps}
use Rattle.ledger.specs.Answer.{State}
use Rattle.ledger.specs.Ledger.{Event}
use Rattle.recovery.specs.Growing.{with_events}
use Rattle.recovery.specs.Recovers.{IsRecovery}
use Rattle.saga_core.specs.Written.{WroteFront}
use Rattle.desk_jobs.specs.Notes.{recovered_note}
use Rattle.recovery.specs.Lines.{lines, answer_lines, state_after_lines, written}

-- the answers to the lines of an input, as bytes
abbrev pub answers_to : State → List ℕ → List ℕ
answers_to s input = written (answer_lines s (lines input))

-- the answers to all lines were written and nothing else, and the state after them is represented
pub record Answers (held holds : Option (List ℕ)) (represents : State → Type 0) (s : State)
    (input : List ℕ) : Type 0 where
  pub sent : Appends held holds (answers_to s input)
  pub left : represents (state_after_lines s (lines input))

-- a prefix of the answers was written
abbrev pub AnswersFront : Option (List ℕ) → Option (List ℕ) → State → List ℕ → Type 0
AnswersFront held holds s input = WroteFront held holds (answers_to s input)

-- the lines were answered over the state with the events of its recovery
pub record AnswersAfterRecovery (held holds : Option (List ℕ)) (represents : State → Type 0) (s : State)
    (input : List ℕ) : Type 0 where
  pub events : List Event
  pub is : IsRecovery s events
  pub answers : Answers held holds represents (with_events s events) input

-- a prefix of these answers was written
pub record AnswersFrontAfterRecovery (held holds : Option (List ℕ)) (s : State) (input : List ℕ) : Type 0 where
  pub events : List Event
  pub is : IsRecovery s events
  pub front : AnswersFront held holds (with_events s events) input

-- nothing was written, or a prefix of the note of so many events as the recovery of the state has
abbrev pub NotesRecovery : Option (List ℕ) → Option (List ℕ) → State → Type 0
NotesRecovery held holds s =
    Keeps held holds
    ⊎ ((events : List Event) × IsRecovery s events × WroteFront held holds (recovered_note (length events)))
