-- Each reply to an event accepts, and its parts keep the limits; so each request within the limits, and each moment of an
-- execution, takes a desk's state to a desk's state. For `desks`, and for books over tables.
use Rattle.std.proofs.Common.{◌≡◌, ℕ, ◌<◌, ◌≤◌, List, [], ◌∷◌, ◌++◌, length, Bool, true, false, Option, Some, None, is_some, IsTrue, refl, sym, ap, subst, arith, eqb-true, nat_le, rules}
use Rattle.std.proofs.lemmas.Bool.{and_parts, and_from, or_cases, leb-true, le-leb, ltb-true}
use Rattle.sqlite_rules.specs.Lists.{Has}
use Rattle.sqlite_rules.proofs.ListLemmas.{test_has, has_last}
use Rattle.sqlite_rules.proofs.ProbeLemmas.{mapped_has}
use Rattle.allotment.specs.Limits.{is_between}
use Rattle.plan.specs.Limits.{most_steps}
use Rattle.plan.specs.PlanModel.{Planned}
use Rattle.plan.proofs.LimitLemmas.{few_options}
use Rattle.commands.specs.Asks.{Asked}
use Rattle.commands.specs.Request.{Request}
use Rattle.commands.specs.Texts.{is_position, is_option, is_item, is_state, is_accepted}
use Rattle.commands.specs.declared.items.Cause.{Cause}
use Rattle.commands.specs.declared.items.Cause.TheVariants as cause
use Rattle.commands.specs.declared.items.Item.{Item}
use Rattle.commands.specs.declared.items.Item.TheVariants as item
use Rattle.commands.specs.declared.items.Phase.{Phase}
use Rattle.commands.specs.declared.items.Phase.TheVariants.{Run, Back, Ended, Undone}
use Rattle.commands.specs.declared.replies.Reply.{Reply}
use Rattle.ledger.specs.History.{net, position_of, is_taken, phase, phase_at, may_come, may_turn, refusals}
use Rattle.ledger.specs.Ledger.{Event, Journey, journey_at, history, may_do, IsLegal}
use Rattle.ledger.specs.Answer.{moved, most_events, answer, is_request, KeptReply, State, state_with, start, asker, kept_for, outcome_for, outcome}
use Rattle.ledger.specs.World.{Moment, Done, Cut, Reopened, after, KeepsLimits, GoesOn}
use Rattle.ledger.proofs.Answers.{IfEvent, OfEach, answer-holds}
use Rattle.ledger.proofs.Coming.{compensation-comes, stop-comes, refused-comes}
use Rattle.ledger.proofs.Histories.{Follows, follows, follows-more}
use Rattle.ledger.proofs.Lists.{number-within}
use Rattle.ledger.proofs.Outcomes.{outcome-legal}
use Rattle.ledger.proofs.Standing.{net-transaction}
use Rattle.ledger.proofs.Targets.{IsTarget, last_save-target, refused-target, asked-target}
use Rattle.sql_model.specs.Standing.{IsKeepable, IsDesk}
use Rattle.sql_model.specs.Worlds.{EachWorldIsADesk}
use Rattle.sql_model.proofs.EventRows.{keepable-more}
use Rattle.sql_model.proofs.Beginning.{journeys-few}
use Rattle.sql_model.proofs.Founding.{start_is_desk}
use Rattle.sql_model.proofs.Numbering.{numbers_within}
use Rattle.sql_model.proofs.Taken.{last_has}

-- Items.

between : (low high n : ℕ) → low ≤ n → n ≤ high → is_between low high n ≡ true
between low high n a b = and_from (nat_le low n) (nat_le n high) (le-leb low n a) (le-leb n high b)

-- a cursor keeps the limits, by its position
state-good : (n pos : ℕ) (to_start : Bool) (going : Option ℕ) → pos ≤ most_steps
    → is_state pos (phase_at n pos to_start going) ≡ true
state-good n pos to_start going few = search (rules, arith, between, ltb-true, and_from, and_parts)

module _ (plan : Planned) (h : List Item) (f : Follows plan h) where
  -- a step that stands keeps the limits, with its option
  standing-good : (i c : ℕ) → Has (net h) (i, c) → is_option i c ≡ true
  standing-good i c there =
      let step = numbers_within 1 (position_of h) i (rw f.stands at (mapped_has (λ (t : ℕ × ℕ). t.0) (net h) (i, c) there)) in
      let option = test_has _ (net h) (i, c) f.options there in
      let few = few_options plan i f.good in
      search (rules, arith, and_from, and_parts, between, leb-true)

  -- so does a target
  target-good : (p : ℕ) → IsTarget plan (is_taken h) (position_of h) p → is_position p ≡ true
  target-good p x = search (rules, arith, between, or_cases, leb-true, and_parts, f.taken)

-- a turn that may come leads to the start or a save-point
turn-target : (plan : Planned) (h : List Item) (fits : Bool) (p : ℕ) (why : Cause)
    → IsTrue (may_come plan h fits (item.Turn p why)) → IsTarget plan (is_taken h) (position_of h) p
turn-target plan h fits p cause.Stop may =
    last_save-target plan (is_taken h) (position_of h) p (stop-comes plan h fits p may).1
turn-target plan h fits p cause.Refused may =
    refused-target plan (is_taken h) (position_of h) (refusals h) p (refused-comes plan h fits p may).target
turn-target plan h fits p cause.Asked may = asked (phase plan h) may
  where
    asked : (q : Phase) → may_turn plan h q p ≡ true → IsTarget plan (is_taken h) (position_of h) p
    asked Run e = asked-target plan (is_taken h) (position_of h) p None e
    asked (Back target) e = asked-target plan (is_taken h) (position_of h) p (Some target) e
    asked Ended e = cc e
    asked Undone e = cc e

-- an item that may come keeps the limits
item-good : (plan : Planned) (h : List Item) (may_fit : Bool) (x : Item) → Follows plan h → may_come plan h may_fit x ≡ true
    → is_item x ≡ true
item-good plan h may_fit (item.Transaction i c) f may =
    standing-good plan (h ++ item.Transaction i c ∷ []) (follows-more plan h may_fit (item.Transaction i c) f may) i c
    (has_last _ (net h) (i, c) (net-transaction h i c))
item-good plan h may_fit (item.Compensation i c) f may =
    standing-good plan h f i c (last_has (net h) (i, c) (compensation-comes plan h may_fit i c may).last)
item-good plan h may_fit (item.Turn p why) f may =
    target-good plan h f p (turn-target plan h may_fit p why may)
item-good plan h may_fit (item.Save p) f may = search (rules, arith, and_parts, eqb-true, between)

-- Replies.

module _ (l : List Event) (legal : IsLegal l) (room : length l < most_events) where
  -- the reply to an item of a journey accepts
  pub moved-good : (j : ℕ) (a : Journey) (x : Item) → journey_at l j ≡ Some a → may_do l j x a ≡ true
      → IsTrue (is_accepted (moved a.plan (history l j) j x).reply)
  moved-good j a x e may =
      search (rules, arith, follows, number-within, journeys-few, follows-more, and_from, between, item-good, state-good)

  -- the reply to each event that a request may make accepts
  replies-good : (who : Option (List ℕ)) → OfEach (λ e r. IsTrue (is_accepted r)) l who
  replies-good who = search (rules, arith, journeys-few, between, moved-good, and_parts)

-- each request within the limits takes a desk's state to a desk's state
pub outcome_keeps : (s : State) (ask : Option Asked) (asked : Request) → IsDesk s
    → is_request asked ≡ true → IsDesk (outcome s ask asked).state
outcome_keeps s ask asked desk ok = record {
  legal = outcome-legal s ask asked desk.legal ok;
  keepable = go (kept_for s ask);
}
  where
    with-event : (r : Reply) (e : Option Event) → IfEvent (λ x y. IsTrue (is_accepted y)) e r
        → IsKeepable (state_with s ask r e).kept
    with-event r None good = desk.keepable
    with-event r (Some e) good = keepable-more s.kept ask r desk.keepable good

    go : (k : Option KeptReply) → IsKeepable (outcome_for s ask asked k).state.kept
    go (Some k) = desk.keepable
    go None =
        with-event (answer s.ledger (asker ask) asked).reply (answer s.ledger (asker ask) asked).event
        (answer-holds (λ e r. IsTrue (is_accepted r)) s.ledger (asker ask) asked ok (λ room. replies-good s.ledger desk.legal room (asker ask)))

-- Executions.

same_without : (s : State) (ask : Option Asked) (asked : Request) → (outcome s ask asked).event ≡ None
    → (outcome s ask asked).state ≡ s
same_without s ask asked = search (rules, arith)

-- a request of an execution leaves a desk's state
stays_desk : (s : State) (ask : Option Asked) (asked : Request) → IsDesk s → KeepsLimits s ask asked
    → IsDesk (outcome s ask asked).state
stays_desk s ask asked desk keeps = go (outcome s ask asked).event refl
  where
    go : (e : Option Event) → (outcome s ask asked).event ≡ e → IsDesk (outcome s ask asked).state
    go None none = subst IsDesk (sym (same_without s ask asked none)) desk
    go (Some e) some = outcome_keeps s ask asked desk (keeps (ap is_some some))

after_desk : (s : State) (w : List Moment) → IsDesk s → GoesOn s w → IsDesk (after s w)
after_desk s [] desk goes = desk
after_desk s (Done asked ask reply ∷ later) desk goes =
    after_desk (outcome s ask asked).state later (stays_desk s ask asked desk goes.0) goes.2
after_desk s (Cut asked ask true ∷ later) desk goes =
    after_desk (outcome s ask asked).state later (stays_desk s ask asked desk goes.0) goes.2
after_desk s (Cut asked ask false ∷ later) desk goes = after_desk s later desk goes.2
after_desk s (Reopened ∷ later) desk goes = after_desk s later desk goes

pub each_world_is_a_desk : EachWorldIsADesk
each_world_is_a_desk w world = after_desk start w start_is_desk world
