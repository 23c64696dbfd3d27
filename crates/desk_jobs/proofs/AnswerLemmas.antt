-- A run that ends early wrote a prefix of the answers to all lines. For run_over.
use Rattle.std.proofs.Common.{◌≡◌, ◌∙◌, ap, sym, subst, refl, min, ◌+◌, List, [], ◌∷◌, ◌++◌, ℕ, length, take, append_assoc, arith, Option, IfSome}
use Rattle.std.proofs.lemmas.List.{take_min}
use Rattle.std.proofs.Math.Seq.{take-append-add, take-append-le}
use Rattle.std.specs.Io.KnownBytes.{Appends}
use Rattle.ledger.specs.Answer.{State}
use Rattle.saga_core.specs.Written.{WroteFront}
use Rattle.saga_core.specs.StreamScenes.{Scene, ended}
use Rattle.saga_core.specs.declared.serve_faults.ServeFault.{ServeFault}
use Rattle.recovery.specs.Lines.{answer_line, answer_lines, state_after_lines, written}
use Rattle.recovery.specs.Serving.{AnswersSome, ForNext, IsCut, WroteAll}
use Rattle.reports.proofs.FrontLemmas.{front_before, front_whole}
use Rattle.program_ends.specs.Ends.{EndsBadly, IfDone}
use Rattle.program_ends.specs.declared.ends.End.{End}
use Rattle.desk_jobs.specs.Running.{answers_to}
use Rattle.desk_jobs.proofs.EndLemmas.{not_done}

-- the answers to lines, and to the lines after them
answer_lines-append : (s : State) (first later : List (List ℕ))
    → answer_lines s (first ++ later) ≡ answer_lines s first ++ answer_lines (state_after_lines s first) later
answer_lines-append s [] later = refl
answer_lines-append s (line ∷ first) later =
    ap (λ texts. (answer_line s line).text ∷ texts) (answer_lines-append (answer_line s line).after first later)

-- the bytes of texts, and of the texts after them
written-append : (first later : List (List ℕ)) → written (first ++ later) ≡ written first ++ written later
written-append [] later = refl
written-append (text ∷ first) later =
    ap (λ rest. ended text ++ rest) (written-append first later)
    ∙ sym (append_assoc (ended text) (written first) (written later))

-- the bytes of the answers to lines, and to the lines after them
written_lines : (s : State) (first later : List (List ℕ))
    → written (answer_lines s (first ++ later))
    ≡ written (answer_lines s first) ++ written (answer_lines (state_after_lines s first) later)
written_lines s first later = ap written (answer_lines-append s first later) ∙ written-append _ _

-- bytes, and a prefix of the next text, are a prefix of all
front_cut : (x y : Option (List ℕ)) (us text rest : List ℕ) (part : ℕ)
    → Appends x y (us ++ take part text)
    → WroteFront x y (us ++ (text ++ rest))
front_cut x y us text rest part sent =
    let few = min part (length text) in
    let same : take few (text ++ rest) ≡ take part text =
    take-append-le few text rest (omega arith) ∙ take_min part text in
    (length us + few, subst (Appends x y) (sym (take-append-add us (text ++ rest) few ∙ ap (λ bs. us ++ bs) same)) sent)

-- the answers to the first lines are a prefix of the answers to all
front_of_first : (x : Scene) (s : State) (first later : List (List ℕ)) → WroteAll x s first
    → WroteFront x.held x.holds (written (answer_lines s (first ++ later)))
front_of_first x s first later sent =
    subst (WroteFront x.held x.holds) (sym (written_lines s first later))
    (front_before x.held x.holds _ _ (front_whole x.held x.holds _ sent))

-- and so they are with a prefix of the next answer
front_of_cut : (x : Scene) (s : State) (first later : List (List ℕ)) → ForNext later (IsCut x s first)
    → WroteFront x.held x.holds (written (answer_lines s (first ++ later)))
front_of_cut x s first [] cut = absurd cut
front_of_cut x s first (line ∷ later) cut =
    subst (WroteFront x.held x.holds) (sym (written_lines s first (line ∷ later)))
    (front_cut x.held x.holds _ (ended (answer_line (state_after_lines s first) line).text) _ cut.0 cut.1)

-- at a fault a prefix of the answers was written
pub front_of_some : (fault : ServeFault) (x : Scene) (s : State) (input : List ℕ) → AnswersSome x s input fault
    → WroteFront x.held x.holds (answers_to s input)
front_of_some fault x s input some =
    subst (λ all. WroteFront x.held x.holds (written (answer_lines s all))) (sym some.cut) (grind (arith, front_of_first, front_of_cut))

-- a run in which not all was done owes no more
pub undone_for : (e : End) → EndsBadly e → (P : List ℕ → Type 0) (known : Option (List ℕ)) → IfSome known (λ input. IfDone e (P input))
undone_for e bad P known = grind (arith, not_done)
