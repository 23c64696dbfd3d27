-- The result of a run over the lines of a reader: what it wrote, and the state of the book after it.
use Rattle.std.specs.Prelude.{◌≡◌, ◌⊎◌, ℕ, List, [], ◌∷◌, ◌++◌, length, take}
use Rattle.ledger.specs.Answer.{State}
use Rattle.saga_core.specs.StreamScenes.{Scene, Wrote, ended}
use Rattle.recovery.specs.Lines.{lines, answer_line, answer_lines, state_after_lines, written}
use Rattle.saga_core.specs.declared.serve_faults.ServeFault.{ServeFault}
use Rattle.saga_core.specs.declared.serve_faults.ServeFault.TheVariants.{Memory, Store, Read, Write}

-- the answers to these lines were written
abbrev pub WroteAll : Scene → State → List (List ℕ) → Type 0
WroteAll x s answered = Wrote x (written (answer_lines s answered))

-- all lines of the input were answered, and the book represents the state after them
pub record AnswersAll (x : Scene) (s : State) (input : List ℕ) (count : ℕ) : Type 0 where
  pub sent : WroteAll x s (lines input)
  pub left : x.stands (state_after_lines s (lines input))
  pub counted : count ≡ length (lines input)

-- there is a next line, for which this holds
abbrev pub ForNext : List (List ℕ) → (List ℕ → Type 0) → Type 0
ForNext [] So = ⊥
ForNext (line ∷ later) So = So line

-- besides, a prefix of the answer to this line was written, and the book represents the state after the line
abbrev pub IsCut : Scene → State → List (List ℕ) → List ℕ → Type 0
IsCut x s answered line =
    let answer = answer_line (state_after_lines s answered) line in
    (part : ℕ) × Wrote x (written (answer_lines s answered) ++ take part (ended answer.text))
    × x.stands answer.after

-- the state at each fault, where these lines were answered and these follow
abbrev pub Leaves : ServeFault → Scene → State → List (List ℕ) → List (List ℕ) → Type 0
Leaves Read x s answered later = WroteAll x s answered × x.stands (state_after_lines s answered)
Leaves Write x s answered later = ForNext later (IsCut x s answered)
Leaves Memory x s answered later =
    let t = state_after_lines s answered in
    WroteAll x s answered
    × (x.stands t ⊎ ForNext later (λ line. x.stands (answer_line t line).after))
Leaves Store x s answered later =
    let t = state_after_lines s answered in
    WroteAll x s answered × ForNext later (λ line. x.leaves t (answer_line t line).after)

-- a prefix of the lines was answered, and then a fault came
pub record AnswersSome (x : Scene) (s : State) (input : List ℕ) (fault : ServeFault) : Type 0 where
  pub answered : List (List ℕ)
  pub later : List (List ℕ)
  pub cut : lines input ≡ answered ++ later
  pub leaves : Leaves fault x s answered later
