-- A book that may act for the lines of an input, one line after another. For run_lines.
use Rattle.std.proofs.Common.{◌≡◌, sym, subst, List, [], ◌∷◌, ◌++◌, ℕ, true, false, append_assoc, append-nil, Option, Some, None, Result, Ok, Err, arith}
use Rattle.commands.specs.Request.{Request}
use Rattle.commands.specs.declared.replies.Fault.{Fault}
use Rattle.commands.specs.declared.replies.Reply.{Reply}
use Rattle.ledger.specs.Answer.{State}
use Rattle.saga_core.specs.Reasons.{ActsOn, ActsOnAfter, FailsAmong, HasReasonAmong}
use Rattle.saga_core.specs.Runs.{Asks, state_after}
use Rattle.saga_core.proofs.ReasonLemmas.{among_first, among_later, among_one}
use Rattle.saga_core.proofs.RunLemmas.{state_after-append}
use Rattle.recovery.specs.Lines.{lines, meaning_in}
use Rattle.recovery.specs.Reading.{Keeps, TakesLine, Unanswered, to_come}
use Rattle.recovery.specs.LineWorlds.{asks_in, asks_meant}
use Rattle.recovery.specs.declared.runs.Line.{Line}
use Rattle.recovery.proofs.ServeLemmas.{ComesAfter}
use Rattle.recovery.proofs.LineWorldLemmas.{asks_in-append}
use Rattle.saga_core.specs.StreamFaults.{served_fault}
use Rattle.saga_core.specs.declared.serve_faults.ServeFault.{ServeFault}
use Rattle.saga_core.specs.declared.serve_faults.ServeFault.TheVariants.{Store}

-- One line.

-- a fault that was handed on is the one that came
pub same_fault : {T : Type 0} (result : Result T ServeFault) (handed came : ServeFault) → result ≡ Err handed → handed ≡ came → result ≡ Err Store
    → came ≡ Store
same_fault result handed came is same store = cc

-- a command that failed had a reason
pub command_fails : (could can : State → Asks → Type 0) (reason : State → State → Type 0) (request : Request) (came : Fault)
    → ActsOn {T = Reply} could can reason None request (Err came) → served_fault came ≡ Store → FailsAmong could reason (asks_meant (Ok request))
command_fails could can reason request came acts is s later may = grind (arith, among_one)

-- Lines.

-- the requests of the lines that are left
abbrev pub asks_left : Option (List ℕ) → Asks
asks_left None = []
asks_left (Some left) = asks_in (lines left)

-- these lines were answered, and the book may act for those that are left, and then for later asks
pub record MayStill (can : State → Asks → Type 0) (s : State) (input : List ℕ) (left : Option (List ℕ)) (later : Asks) : Type 0 where
  pub answered : List (List ℕ)
  pub comes : ComesAfter left input answered
  pub may : can (state_after s (asks_in answered)) (asks_left left ++ later)

-- at first no line was answered
pub may_at_first : (could : State → Asks → Type 0) (s : State) (input : List ℕ) (later : Asks) (u : Unanswered) (known : Option (List ℕ))
    → u.waiting ≡ [] → known ≡ Some input → could s (asks_in (lines input) ++ later) → MayStill could s input (to_come u known) later
may_at_first could s input later u known nothing is may = grind arith

-- at the end the book may act for the later asks
pub may_at_end : (can : State → Asks → Type 0) (s : State) (input : List ℕ) (left rest : Option (List ℕ)) (line : Line) (later : Asks)
    → MayStill can s input left later → TakesLine left rest false line → can (state_after s (asks_in (lines input))) later
may_at_end can s input left rest line later still taken = grind (arith, append-nil)

-- The next line was taken.

-- it may act for the request of that line, and then for those of the other lines
record MayTake (could : State → Asks → Type 0) (s : State) (input : List ℕ) (rest : Option (List ℕ)) (line : Line) (later : Asks) : Type 0 where
  pub answered : List (List ℕ)
  pub text : List ℕ
  pub kept : Keeps line text
  pub left : List ℕ
  pub rest_is : rest ≡ Some left
  pub cut : lines input ≡ answered ++ text ∷ lines left
  pub may : could (state_after s (asks_in answered)) (asks_meant (meaning_in text) ++ (asks_in (lines left) ++ later))

may_take : (could : State → Asks → Type 0) (s : State) (input : List ℕ) (left rest : Option (List ℕ)) (line : Line) (later : Asks)
    → MayStill could s input left later → TakesLine left rest true line → MayTake could s input rest line later
may_take could s input None rest line later still taken = absurd still.comes
may_take could s input (Some left) None line later still taken = absurd taken
may_take could s input (Some left) (Some rest) line later still taken = grind (arith, append_assoc)

-- it was answered
pub may_go_on : (could can : State → Asks → Type 0) (s : State) (input : List ℕ) (left rest : Option (List ℕ)) (line : Line) (later : Asks)
    → MayStill could s input left later → TakesLine left rest true line
    → ((text : List ℕ) → Keeps line text → ActsOnAfter could can (asks_meant (meaning_in text))) → MayStill can s input rest later
may_go_on could can s input left rest line later still taken acts =
    let next = may_take could s input left rest line later still taken in
    let asks = asks_meant (meaning_in next.text) in
    let others = asks_in (lines next.left) ++ later in
    let more : asks_in (next.answered ++ next.text ∷ []) ≡ asks_in next.answered ++ asks = grind (arith, asks_in-append, append-nil) in
    let at : state_after s (asks_in (next.answered ++ next.text ∷ [])) ≡ state_after (state_after s (asks_in next.answered)) asks =
    grind (arith, state_after-append) in
    record {
      answered = next.answered ++ next.text ∷ [];
      comes = grind (arith, append_assoc);
      may = subst (λ known. can (state_after s (asks_in (next.answered ++ next.text ∷ []))) (asks_left known ++ later)) (sym next.rest_is)
          (subst (λ t. can t others) (sym at) (acts next.text next.kept (state_after s (asks_in next.answered)) others next.may));
    }

-- it failed, for a reason
pub line_fails : (could : State → Asks → Type 0) (reason : State → State → Type 0) (s : State) (input : List ℕ) (left rest : Option (List ℕ))
    (line : Line) (later : Asks) → MayStill could s input left later → TakesLine left rest true line
    → ((text : List ℕ) → Keeps line text → FailsAmong could reason (asks_meant (meaning_in text)))
    → HasReasonAmong reason s (asks_in (lines input))
line_fails could reason s input left rest line later still taken fails =
    let next = may_take could s input left rest line later still taken in
    let asks = asks_meant (meaning_in next.text) in
    let at = state_after s (asks_in next.answered) in
    let others = asks_in (lines next.left) in
    let whole : asks_in (lines input) ≡ asks_in next.answered ++ (asks ++ others) = grind (arith, asks_in-append) in
    subst (HasReasonAmong reason s) (sym whole)
    (among_later reason s (asks_in next.answered) (asks ++ others)
    (among_first reason at asks others (fails next.text next.kept at (others ++ later) next.may)))
