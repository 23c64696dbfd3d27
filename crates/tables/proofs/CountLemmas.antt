-- How many journeys are unfinished after an answer. For `TableBook`.
use Rattle.std.proofs.Common.{◌≡◌, ℕ, ◌+◌, List, [], ◌∷◌, ◌++◌, refl, ap, sym, subst, ◌∙◌, arith, IsTrue, true, not, Option, Some, None, is_some}
use Rattle.std.specs.Prelude.{unwrap_or}
use Rattle.allotment.specs.declared.cells.Row.{Row}
use Rattle.commands.specs.Asks.{Asked}
use Rattle.commands.specs.Names.{house}
use Rattle.commands.specs.Request.{Request}
use Rattle.commands.specs.declared.items.Item.{Item}
use Rattle.commands.specs.declared.replies.Refusal.{Refusal}
use Rattle.commands.specs.declared.replies.Reply.{Reply}
use Rattle.plan.specs.PlanModel.{Planned}
use Rattle.ledger.specs.History.{phase, is_finished}
use Rattle.ledger.specs.Ledger.{Event, Began, Did, Journey, history, is_allowed, IsLegal}
use Rattle.ledger.specs.Answer.{State, KeptReply, outcome, outcome_for, state_with, answer, answer_within, asker, is_request, kept_for}
use Rattle.ledger.specs.Replies.{Answer, answer_load, answer_move}
use Rattle.ledger.proofs.Answers.{IfEvent, OfEach, answer-holds}
use Rattle.ledger.proofs.Recovering.{AreAllowedAfter-split}
use Rattle.sql_commands.specs.declared.answering.Answered.{Answered}
use Rattle.tables.specs.UnfinishedCount.{IsCount, CountsOn, IsCountAfter, FollowsCount}
use Rattle.tables.proofs.NumberLemmas.{unfinished_in, taken_if, unfinished-loaded, unfinished-began, unfinished-did}

-- a reply with an event tells how many journeys are unfinished after it
abbrev Counts : List Event → Event → Reply → Type 0
Counts l e r = (n m : ℕ) → IsLegal (l ++ e ∷ []) → CountsOn r n m → n ≡ unfinished_in l → m ≡ unfinished_in (l ++ e ∷ [])

-- the event after a legal ledger is allowed
allowed_last : (l : List Event) (e : Event) → IsLegal (l ++ e ∷ []) → IsTrue (is_allowed l e)
allowed_last l e legal = (AreAllowedAfter-split [] l (e ∷ []) legal).1.0

-- and one without an event tells of no change
abbrev IsStill : Answer → Type 0
IsStill a = (n m : ℕ) → a.event ≡ None → CountsOn a.reply n m → m ≡ n

load_still : (l : List Event) (name : List ℕ) (rows : List Row) (known : List (List Row)) → IsStill (answer_load l name rows known)
load_still l name rows known n m none on = grind arith

move_still : (l : List Event) (j : ℕ) (choices : Planned → List Item → List Item) (otherwise : Refusal) (o : Option Journey)
    → IsStill (answer_move l j choices otherwise o)
move_still l j choices otherwise o n m none on = grind arith

within_still : (l : List Event) (who : Option (List ℕ)) (asked : Request) → IsStill (answer_within l who asked)
within_still l who asked n m none on = grind (arith, load_still, move_still)

answer_still : (l : List Event) (who : Option (List ℕ)) (asked : Request) → IsStill (answer l who asked)
answer_still l who asked n m none on = grind (arith, within_still)

each_counts : (l : List Event) (who : Option (List ℕ)) → IsLegal l → OfEach (Counts l) l who
each_counts l who legal = record {
  load = λ name rows _ _ n m next on is. on ∙ is ∙ sym (unfinished-loaded l name rows);
  begin = λ plan _ n m next on is. (
      let e = Began (unwrap_or who house) plan in
      on ∙ ap (λ k. k + 1) is ∙ sym (unfinished-began l (unwrap_or who house) plan legal (allowed_last l e next)));
  move = λ j a item at may n m next on is. (
      let more = unfinished-did l j item a at (allowed_last l (Did j item) next) in
      left m (taken_if (is_finished (phase a.plan (history l j ++ item ∷ [])))) n (unfinished_in (l ++ Did j item ∷ [])) on (is ∙ more));
}
  where
    left : (m k n rest : ℕ) → m + k ≡ n → n ≡ rest + k → m ≡ rest
    left m k n rest on is = omega (arith, on, is)

-- a number that is remembered is that of the ledger, and so is the one that follows from it
pub count_kept : (s : State) (ask : Option Asked) (asked : Request) (answered : Answered) (before after : Option ℕ)
    → is_request asked ≡ true → IsLegal s.ledger → IsLegal (outcome s ask asked).state.ledger
    → answered.reply ≡ (outcome s ask asked).reply → answered.is_new ≡ not (is_some (kept_for s ask))
    → FollowsCount answered before after → IsCount s.ledger before → IsCount (outcome s ask asked).state.ledger after
count_kept s ask asked answered before None good legal next reply new follows count = tt
count_kept s ask asked answered None (Some m) good legal next reply new follows count = absurd follows
count_kept s ask asked answered (Some n) (Some m) good legal next reply new follows count =
    by_kept (kept_for s ask) next reply new
  where
    by_event : (r : Reply) (e : Option Event) → IsLegal (state_with s ask r e).ledger → CountsOn r n m → IfEvent (Counts s.ledger) e r
        → (e ≡ None → m ≡ n) → m ≡ unfinished_in (state_with s ask r e).ledger
    by_event r None legal on each still = still refl ∙ count
    by_event r (Some e) legal on each still = each n m legal on count

    by_kept : (o : Option KeptReply) → IsLegal (outcome_for s ask asked o).state.ledger
        → answered.reply ≡ (outcome_for s ask asked o).reply → answered.is_new ≡ not (is_some o)
        → m ≡ unfinished_in (outcome_for s ask asked o).state.ledger
    by_kept (Some k) next reply new = subst (λ v. IsCountAfter v answered.reply n m) new follows ∙ count
    by_kept None next reply new =
        let a = answer s.ledger (asker ask) asked in
        let on : CountsOn answered.reply n m = subst (λ v. IsCountAfter v answered.reply n m) new follows in
        let tells : CountsOn a.reply n m = subst (λ r. CountsOn r n m) reply on in
        by_event a.reply a.event next tells
        (answer-holds (Counts s.ledger) s.ledger (asker ask) asked good (λ room. each_counts s.ledger (asker ask) legal))
        (λ none. answer_still s.ledger (asker ask) asked n m none tells)
