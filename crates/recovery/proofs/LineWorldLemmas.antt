-- How an execution continues with the lines of an input. For run_lines.
use Rattle.std.proofs.Common.{◌≡◌, ◌≤◌, ◌∙◌, ap, sym, subst, refl, inl, inr, arith, List, [], ◌∷◌, ◌++◌, ℕ, Bool, true, false, length, append_assoc, IsTrue, Option, Some, None, Result, Ok, Err, IfOk, IfErr, IfSome, OnOk, if◌then◌else◌}
use Rattle.commands.specs.Request.{Request}
use Rattle.commands.specs.declared.replies.Refusal.TheVariants.{BadBody}
use Rattle.ledger.specs.Answer.{State, start, is_request}
use Rattle.ledger.specs.World.{Moment, after}
use Rattle.saga_core.specs.Runs.{Asks, state_after}
use Rattle.saga_core.specs.Worlds.{KeepLimits, StandsAtEnd, EndsWith, EndsAmong, GoesOnWith}
use Rattle.saga_core.proofs.WorldLemmas.{KeepLimits-append, ends-with, ends-after, ends-cut}
use Rattle.saga_core.specs.StreamScenes.{Scene}
use Rattle.saga_core.specs.declared.serve_faults.ServeFault.{ServeFault}
use Rattle.saga_core.specs.declared.serve_faults.ServeFault.TheVariants.{Memory, Read, Store, Write}
use Rattle.recovery.specs.Lines.{IsLineOf, Meaning, answer_line, answer_to, is_readable, lines, meaning_in, state_after_lines, text_meaning}
use Rattle.recovery.specs.Serving.{AnswersAll, AnswersSome, Leaves}
use Rattle.recovery.specs.LineWorlds.{asks_meant, asks_in, EndsAmongLines, GoesOnAmongLines}
use Rattle.recovery.proofs.OneLineLemmas.{meant_is_line}
use Rattle.recovery.proofs.ServeLemmas.{after_more}

-- Limits.

-- a request that has a line keeps the limits
line_in_limits : (text : List ℕ) (request : Request) → IsLineOf text request → IsTrue (is_request request)
line_in_limits text request is = grind arith

-- a line that can be read has the meaning of its text
readable_means : (line : List ℕ) (readable : Bool) → readable ≡ is_readable line
    → (if readable then text_meaning line else Err BadBody) ≡ meaning_in line
readable_means line readable is = ap (λ b. if b then text_meaning line else Err BadBody) is

-- the request of a line keeps the limits
asked_in_limits : (line : List ℕ) (request : Request) (readable : Bool) → readable ≡ is_readable line
    → meaning_in line ≡ Ok request → IsTrue (is_request request)
asked_in_limits line request true is means =
    line_in_limits line request (meant_is_line line request (readable_means line true is ∙ means))
asked_in_limits line request false is means = cc (readable_means line false is)

limits_of : (line : List ℕ) (request : Request) → meaning_in line ≡ Ok request → IsTrue (is_request request)
limits_of line request = asked_in_limits line request (is_readable line) refl

-- the requests of lines keep the limits
meant-in_limits : (m : Meaning) (rest : Asks) → ((request : Request) → m ≡ Ok request → IsTrue (is_request request))
    → KeepLimits rest → KeepLimits (asks_meant m ++ rest)
meant-in_limits m rest limits all = grind arith

in-limits : (ls : List (List ℕ)) → KeepLimits (asks_in ls)
in-limits [] = tt
in-limits (line ∷ ls) = meant-in_limits (meaning_in line) (asks_in ls) (limits_of line) (in-limits ls)

-- The requests of lines.

-- the requests of lines followed by other lines
pub asks_in-append : (ls ms : List (List ℕ)) → asks_in (ls ++ ms) ≡ asks_in ls ++ asks_in ms
asks_in-append [] ms = refl
asks_in-append (line ∷ ls) ms = grind (arith, append_assoc, asks_in-append ls)

-- one line makes at most one request
one-meant : (m : Meaning) → length (asks_meant m ++ []) ≤ 1
one-meant m = grind arith

-- a line leads to the state to which its request leads
leads-meant : (s : State) (m : Meaning) (rest : Asks)
    → state_after (answer_to s m).after rest ≡ state_after s (asks_meant m ++ rest)
leads-meant s m rest = grind arith

leads : (s : State) (ls : List (List ℕ)) → state_after_lines s ls ≡ state_after s (asks_in ls)
leads s [] = refl
leads s (line ∷ ls) = leads (answer_line s line).after ls ∙ leads-meant s (meaning_in line) (asks_in ls)

-- Executions that continue.

-- all lines were answered
all_go_on : {stood : State → Type 0} (x : Scene) (w : List Moment) (input : List ℕ) (count : ℕ)
    → ((u : State) → x.stands u → x.leaves u u)
    → StandsAtEnd stood w → AnswersAll x (after start w) input count
    → EndsWith x.stands x.leaves w (asks_in (lines input))
all_go_on x w input count settled here all =
    ends-with x.stands x.leaves w (asks_in (lines input)) settled here (in-limits (lines input))
    (subst x.stands (leads (after start w) (lines input)) all.left)

-- these lines were executed
abbrev stops-after : {stood : State → Type 0} (x : Scene) (w : List Moment) (input : List ℕ)
    (carried later : List (List ℕ)) → ((u : State) → x.stands u → x.leaves u u)
    → StandsAtEnd stood w → lines input ≡ carried ++ later
    → x.stands (state_after_lines (after start w) carried)
    → EndsAmong x.stands x.leaves w (asks_in (lines input)) false
stops-after x w input carried later settled here cut now =
    ends-after x.stands x.leaves w (asks_in (lines input)) (asks_in carried) (asks_in later) settled here
    (ap asks_in cut ∙ asks_in-append carried later) (in-limits carried)
    (subst x.stands (leads (after start w) carried) now)

-- one more line
one-more : (input : List ℕ) (answered : List (List ℕ)) (line : List ℕ) (later : List (List ℕ))
    → lines input ≡ answered ++ line ∷ later → lines input ≡ (answered ++ line ∷ []) ++ later
one-more input answered line later cut = cut ∙ sym (append_assoc answered (line ∷ []) later)

-- what a crash leaves of the next line
line-cut : (leaves : State → State → Type 0) (s : State) (answered : List (List ℕ)) (line : List ℕ)
    → leaves (state_after_lines s answered) (answer_line (state_after_lines s answered) line).after
    → leaves (state_after s (asks_in answered)) (state_after s (asks_in answered ++ asks_in (line ∷ [])))
line-cut leaves s answered line left =
    let both : state_after s (asks_in answered ++ asks_in (line ∷ []))
    ≡ (answer_line (state_after_lines s answered) line).after =
    ap (state_after s) (sym (asks_in-append answered (line ∷ [])))
    ∙ sym (leads s (answered ++ line ∷ [])) ∙ after_more s answered line in
    subst (λ t. leaves t (state_after s (asks_in answered ++ asks_in (line ∷ [])))) (leads s answered)
    (subst (leaves (state_after_lines s answered)) (sym both) left)

-- the requests of all lines, by those of the answered lines, the next line and the later ones
parted : (input : List ℕ) (answered : List (List ℕ)) (line : List ℕ) (later : List (List ℕ))
    → lines input ≡ answered ++ line ∷ later
    → asks_in (lines input) ≡ asks_in answered ++ asks_in (line ∷ []) ++ asks_in later
parted input answered line later cut =
    grind (arith, one-more input answered line later, asks_in-append (answered ++ line ∷ []) later, asks_in-append answered)

-- a fault ended the run
ends_by : {stood : State → Type 0} (x : Scene) (w : List Moment) (input : List ℕ) (fault : ServeFault)
    (answered later : List (List ℕ)) → ((u : State) → x.stands u → x.leaves u u)
    → StandsAtEnd stood w → lines input ≡ answered ++ later
    → Leaves fault x (after start w) answered later → EndsAmongLines x w input fault
ends_by x w input Read answered later settled here cut left = record {
  some = record { answered = answered; later = later; cut = cut; leaves = left };
  among = stops-after x w input answered later settled here cut left.1;
  carried_out = refl;
  under_way = refl;
}
ends_by x w input Write answered [] settled here cut left = absurd left
ends_by x w input Write answered (line ∷ later) settled here cut left = record {
  some = record { answered = answered; later = line ∷ later; cut = cut; leaves = left };
  among = stops-after x w input (answered ++ line ∷ []) later settled here
      (one-more input answered line later cut)
      (subst x.stands (sym (after_more (after start w) answered line)) left.2);
  carried_out = refl;
  under_way = refl;
}
ends_by x w input Memory answered [] settled here cut left =
    elim left.1 [
      | inl now ↦ record {
        some = record { answered = answered; later = []; cut = cut; leaves = left };
        among = stops-after x w input answered [] settled here cut now;
        carried_out = inl refl;
        under_way = refl;
      }
      | inr none ↦ absurd none
    ]
ends_by x w input Memory answered (line ∷ later) settled here cut left =
    elim left.1 [
      | inl now ↦ record {
        some = record { answered = answered; later = line ∷ later; cut = cut; leaves = left };
        among = stops-after x w input answered (line ∷ later) settled here cut now;
        carried_out = inl refl;
        under_way = refl;
      }
      | inr now ↦ record {
        some = record { answered = answered; later = line ∷ later; cut = cut; leaves = left };
        among = stops-after x w input (answered ++ line ∷ []) later settled here
            (one-more input answered line later cut)
            (subst x.stands (sym (after_more (after start w) answered line)) now);
        carried_out = inr refl;
        under_way = refl;
      }
    ]
ends_by x w input Store answered [] settled here cut left = absurd left.1
ends_by x w input Store answered (line ∷ later) settled here cut left = record {
  some = record { answered = answered; later = line ∷ later; cut = cut; leaves = left };
  among = ends-cut x.stands x.leaves w (asks_in (lines input)) (asks_in answered) (asks_in (line ∷ []))
      (asks_in later) here (parted input answered line later cut) (one-meant (meaning_in line))
      (KeepLimits-append (asks_in answered) (asks_in (line ∷ [])) (in-limits answered) (in-limits (line ∷ [])))
      (line-cut x.leaves (after start w) answered line left.1);
  carried_out = refl;
  under_way = refl;
}

-- The result of a run, as an execution.

-- at Ok the execution continues with all lines
pub lines_go_on : {stood : State → Type 0} (x : Scene) (known : Option (List ℕ)) (r : Result ℕ ServeFault)
    → ((u : State) → x.stands u → x.leaves u u)
    → ((s : State) → stood s → IfSome known (λ input. IfOk r (AnswersAll x s input)))
    → IfSome known (λ input. OnOk r (GoesOnWith stood x.stands x.leaves (asks_in (lines input))))
lines_go_on x None r settled each = tt
lines_go_on x (Some input) (Ok count) settled each =
    λ w here. all_go_on x w input count settled here (each (after start w) here.stands_there)
lines_go_on x (Some input) (Err fault) settled each = tt

-- at a fault it continues with a prefix of them
pub lines_stop : {stood : State → Type 0} (x : Scene) (known : Option (List ℕ)) (r : Result ℕ ServeFault)
    → ((u : State) → x.stands u → x.leaves u u)
    → ((s : State) → stood s → IfSome known (λ input. IfErr r (AnswersSome x s input)))
    → IfSome known (λ input. IfErr r (GoesOnAmongLines stood x input))
lines_stop x None r settled each = tt
lines_stop x (Some input) (Ok count) settled each = tt
lines_stop x (Some input) (Err fault) settled each =
    λ w here.
    let some = each (after start w) here.stands_there in
    ends_by x w input fault some.answered some.later settled here some.cut some.leaves
