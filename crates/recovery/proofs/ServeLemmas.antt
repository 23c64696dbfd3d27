-- A run over lines answers one line after another, until the input ends or a fault comes. For run_lines.
use Rattle.std.proofs.Common.{◌≡◌, ◌∙◌, ap, sym, subst, refl, ◌+◌, List, [], ◌∷◌, ◌++◌, ℕ, true, false, length, append_assoc, append-nil, length-append, Option, String, Global, Some, None, Ok, Err, arith}
use Rattle.std.specs.String.{string_bytes}
use Rattle.std.specs.Io.KnownBytes.{Appends}
use Rattle.ledger.specs.Answer.{State}
use Rattle.recovery.specs.Answering.{AnswersLine}
use Rattle.recovery.specs.Lines.{answer_line, answer_lines, lines, state_after_lines, written}
use Rattle.recovery.specs.Reading.{Keeps, TakesLine, Unanswered, to_come}
use Rattle.saga_core.specs.StreamFaults.{IsOfReading}
use Rattle.saga_core.specs.Written.{WroteFront}
use Rattle.saga_core.specs.StreamScenes.{Scene, scene, ended}
use Rattle.recovery.specs.Serving.{AnswersAll, AnswersSome, WroteAll}
use Rattle.saga_core.specs.declared.serve_faults.ServeFault.{ServeFault}
use Rattle.saga_core.specs.declared.serve_faults.ServeFault.TheVariants.{Write}
use Rattle.recovery.specs.declared.runs.Line.{Line}
use Rattle.saga_core.proofs.ByteLemmas.{appends_more, appends_none, keeps_same}

-- Lists of lines and of their answers, with one appended.

-- the state after one more line
pub after_more : (s : State) (ls : List (List ℕ)) (line : List ℕ)
    → state_after_lines s (ls ++ line ∷ []) ≡ (answer_line (state_after_lines s ls) line).after
after_more s [] line = refl
after_more s (l ∷ ls) line = after_more (answer_line s l).after ls line

-- the answers to one more line
answers_more : (s : State) (ls : List (List ℕ)) (line : List ℕ)
    → answer_lines s (ls ++ line ∷ []) ≡ answer_lines s ls ++ (answer_line (state_after_lines s ls) line).text ∷ []
answers_more s [] line = refl
answers_more s (l ∷ ls) line = ap (λ texts. (answer_line s l).text ∷ texts) (answers_more (answer_line s l).after ls line)

-- the bytes for one more text
written_more : (texts : List (List ℕ)) (text : List ℕ) → written (texts ++ text ∷ []) ≡ written texts ++ ended text
written_more [] text = append-nil (ended text)
written_more (t ∷ texts) text = ap (λ rest. ended t ++ rest) (written_more texts text) ∙ sym (append_assoc (ended t) (written texts) (ended text))

-- the bytes for one more line
written_for_more : (s : State) (ls : List (List ℕ)) (line : List ℕ)
    → written (answer_lines s (ls ++ line ∷ [])) ≡ written (answer_lines s ls) ++ ended (answer_line (state_after_lines s ls) line).text
written_for_more s ls line = ap written (answers_more s ls line) ∙ written_more (answer_lines s ls) _

-- Runs.

-- the lines of the input are these, followed by those of the rest of the input
abbrev pub ComesAfter : Option (List ℕ) → List ℕ → List (List ℕ) → Type 0
ComesAfter None input answered = ⊥
ComesAfter (Some left) input answered = lines input ≡ answered ++ lines left

-- so many lines were answered, and the others are in the rest of the input
pub record SoFar (x : Scene) (s : State) (input : List ℕ) (left : Option (List ℕ))
    (count : ℕ) : Type 0 where
  pub answered : List (List ℕ)
  pub sent : WroteAll x s answered
  pub stands : x.stands (state_after_lines s answered)
  pub counted : count ≡ length answered
  pub later : ComesAfter left input answered

-- at first, no line was answered
pub starts : (held : Option (List ℕ)) (stands : State → Type 0) (leaves : State → State → Type 0)
    (s : State) (input : List ℕ) (u : Unanswered)
    (known : Option (List ℕ)) → u.waiting ≡ [] → known ≡ Some input → stands s → SoFar (scene held held stands leaves) s input (to_come u known) 0
starts held stands leaves s input u known nothing is stood = grind (arith, appends_none, keeps_same)

-- a fault of reading comes between two lines
pub read_fails : (x : Scene) (s : State) (input : List ℕ) (left : Option (List ℕ)) (count : ℕ) (fault : ServeFault)
    → SoFar x s input left count → IsOfReading fault → AnswersSome x s input fault
read_fails x s input left count fault so_far of = grind arith

-- where there is no further line, all lines were answered
pub all_answered : (x : Scene) (s : State) (input : List ℕ) (left rest : Option (List ℕ)) (count : ℕ) (line : Line)
    → SoFar x s input left count → TakesLine left rest false line → AnswersAll x s input count
all_answered x s input left rest count line so_far taken = grind (arith, append-nil)

-- the next line, and the lines after it
record HasNext (rest : Option (List ℕ)) (input : List ℕ) (answered : List (List ℕ))
    (line : Line) : Type 0 where
  pub text : List ℕ
  pub kept : Keeps line text
  pub left : List ℕ
  pub rest_is : rest ≡ Some left
  pub cut : lines input ≡ answered ++ text ∷ lines left

-- a line that was taken is the next line
next_of : (x : Scene) (s : State) (input : List ℕ) (left rest : Option (List ℕ)) (count : ℕ)
    (line : Line) (so_far : SoFar x s input left count) → TakesLine left rest true line → HasNext rest input so_far.answered line
next_of x s input left rest count line so_far taken = grind arith

-- one more line was answered, and its answer written
pub goes_on : (held holds now : Option (List ℕ)) (stands0 stands1 : State → Type 0)
    (leaves0 leaves1 : State → State → Type 0) (s : State) (input : List ℕ)
    (left rest : Option (List ℕ)) (count : ℕ) (line : Line) (answer : String Global)
    → SoFar (scene held holds stands0 leaves0) s input left count → TakesLine left rest true line
    → ((t : State) → stands0 t → (text : List ℕ) → Keeps line text → AnswersLine stands1 leaves1 t {Z = Global} text (Ok answer))
    → Appends holds now (string_bytes answer) → SoFar (scene held now stands1 leaves1) s input rest (count + 1)
goes_on held holds now stands0 stands1 leaves0 leaves1 s input left rest count line answer so_far taken told sent =
    let next = next_of (scene held holds stands0 leaves0) s input left rest count line so_far taken in
    let done = so_far.answered in
    let answered = told (state_after_lines s done) so_far.stands next.text next.kept in
    let whole : written (answer_lines s (done ++ next.text ∷ [])) ≡ written (answer_lines s done) ++ string_bytes answer =
    grind (arith, written_for_more) in
    record {
      answered = done ++ next.text ∷ [];
      sent = subst (Appends held now) (sym whole) (appends_more held holds now (written (answer_lines s done)) (string_bytes answer) so_far.sent sent);
      stands = subst stands1 (sym (after_more s done next.text)) answered.1;
      counted = ap (λ n. n + 1) so_far.counted ∙ sym (length-append done (next.text ∷ []));
      later = grind (arith, append_assoc);
    }

-- the answer was written in part
pub write_fails : (held holds now : Option (List ℕ)) (stands0 stands1 : State → Type 0)
    (leaves0 leaves1 : State → State → Type 0) (s : State) (input : List ℕ)
    (left rest : Option (List ℕ)) (count : ℕ) (line : Line) (answer : String Global)
    → SoFar (scene held holds stands0 leaves0) s input left count → TakesLine left rest true line
    → ((t : State) → stands0 t → (text : List ℕ) → Keeps line text → AnswersLine stands1 leaves1 t {Z = Global} text (Ok answer))
    → WroteFront holds now (string_bytes answer) → AnswersSome (scene held now stands1 leaves1) s input Write
write_fails held holds now stands0 stands1 leaves0 leaves1 s input left rest count line answer so_far taken told cut =
    grind (arith, next_of, appends_more)

-- the line was not answered
pub answer_fails : (held holds : Option (List ℕ)) (stands0 stands1 : State → Type 0)
    (leaves0 leaves1 : State → State → Type 0) (s : State) (input : List ℕ)
    (left rest : Option (List ℕ)) (count : ℕ) (line : Line) (fault : ServeFault)
    → SoFar (scene held holds stands0 leaves0) s input left count → TakesLine left rest true line
    → ((t : State) → stands0 t → (text : List ℕ) → Keeps line text → AnswersLine stands1 leaves1 t {Z = Global} text (Err fault))
    → AnswersSome (scene held holds stands1 leaves1) s input fault
answer_fails held holds stands0 stands1 leaves0 leaves1 s input left rest count line fault so_far taken told =
    grind (arith, next_of (scene held holds stands0 leaves0) s input left rest count line so_far taken)
