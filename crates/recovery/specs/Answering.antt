-- The answer to one line, and the state of the book after it.
use Rattle.std.specs.Prelude.{◌≡◌, ◌⊎◌, List, ℕ, Result, Ok, Err, String}
use Rattle.std.specs.String.{string_bytes}
use Rattle.ledger.specs.Answer.{State}
use Rattle.recovery.specs.Lines.{Answered, Meaning, answer_line, answer_to}
use Rattle.saga_core.specs.StreamScenes.{ended}
use Rattle.saga_core.specs.declared.serve_faults.ServeFault.{ServeFault}
use Rattle.saga_core.specs.declared.serve_faults.ServeFault.TheVariants.{Memory, Store}

module _ (stands : State → Type 0) (leaves : State → State → Type 0) (s : State) where
  -- the text is this answer, and the book represents the state after it; or a fault came before the answer or after it
  abbrev pub Gives : {Z : Type 0} → Answered → Result (String Z) ServeFault → Type 0
  Gives answer (Ok text) = (string_bytes text ≡ ended answer.text) × stands answer.after
  Gives answer (Err Memory) = stands s ⊎ stands answer.after
  Gives answer (Err Store) = leaves s answer.after
  Gives answer (Err _) = ⊥

  -- the meaning of a line was answered, or a fault came
  abbrev pub AnswersOrder : {Z : Type 0} → Meaning → Result (String Z) ServeFault → Type 0
  AnswersOrder meaning result = Gives (answer_to s meaning) result

  -- a line was answered, or a fault came
  abbrev pub AnswersLine : {Z : Type 0} → List ℕ → Result (String Z) ServeFault → Type 0
  AnswersLine line result = Gives (answer_line s line) result
