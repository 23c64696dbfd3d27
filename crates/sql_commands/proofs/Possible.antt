-- An item that the rules answer is allowed, and the target of a turn is in the plan. For `carry_out`.
use Rattle.std.proofs.Common.{◌≡◌, ◌≤◌, ℕ, List, Bool, true, false, if◌then◌else◌, Option, Some, None, inl, inr, refl, sym, ap, subst, ◌∙◌, arith, leb-true, ◌&&◌, find, nat_le, option_map, Ok, unwrap_or}
use Rattle.std.proofs.lemmas.Bool.{and_parts, or_cases}
use Rattle.plan.specs.PlanModel.{Planned, is_marked_at, step_count}
use Rattle.commands.specs.declared.items.Cause.{Cause}
use Rattle.commands.specs.declared.items.Cause.TheVariants as cause
use Rattle.commands.specs.declared.items.Item.{Item}
use Rattle.commands.specs.declared.items.Item.TheVariants as item
use Rattle.commands.specs.declared.items.Phase.{Phase}
use Rattle.commands.specs.declared.items.Phase.TheVariants.{Run, Back}
use Rattle.commands.specs.declared.replies.Refusal.{Refusal}
use Rattle.commands.specs.declared.replies.Refusal.TheVariants.{Finished, NoSavePoint, NoSave}
use Rattle.ledger.specs.Answer.{State, answer_within}
use Rattle.ledger.specs.History.{is_finished, is_taken, may_come, may_turn, next_want, phase, position_of}
use Rattle.ledger.specs.Ledger.{Event, Did, Journey, fits, history, may_do}
use Rattle.ledger.specs.Replies.{Answer, answer_choices, answer_move, moved, refused, seen_journey, step_choices, abort_choices, stop_choices, save_choices}
use Rattle.ledger.proofs.Coming.{stop-comes, refused-comes}
use Rattle.ledger.proofs.Lists.{find-passes}
use Rattle.ledger.proofs.Targets.{IsTarget, last_save-target, refused-target, asked-target}
use Rattle.ledger.specs.AnswerChanges.{moves}
use Rattle.ledger.proofs.Histories.{Follows, follows}
use Rattle.saga_core.specs.declared.records.Record.{Record}
use Rattle.sql_model.specs.Standing.{IsDesk}
use Rattle.sql_commands.specs.Moving.{asked_for}
use Rattle.sql_commands.specs.Placing.{begun_as, IsSeen}
use Rattle.saga_core.specs.Rulings.{Fits}
use Rattle.sql_commands.specs.declared.moves.Motion.{Motion}
use Rattle.sql_commands.specs.declared.moves.Motion.TheVariants as motion

-- The item of an answer is the first of the choices that is allowed.
chosen_allowed : (l : List Event) (j : ℕ) (a : Journey) (choices : Planned → List Item → List Item) (otherwise : Refusal) (x : Item)
    → (answer_move l j choices otherwise (Some a)).event ≡ Some (Did j x) → may_do l j x a ≡ true
chosen_allowed l j a choices otherwise x made = by_phase (is_finished (phase a.plan (history l j))) made
  where
    by_find : (o : Option Item) → find (λ y. may_do l j y a) (choices a.plan (history l j)) ≡ o
        → (unwrap_or (option_map (moved a.plan (history l j) j) o) (refused otherwise)).event ≡ Some (Did j x)
        → may_do l j x a ≡ true
    by_find None e is = let bad : None ≡ Some (Did j x) = is in cc
    by_find (Some y) e is =
        let told : Some (Did j y) ≡ Some (Did j x) = is in
        let same : y ≡ x = cc in
        ap (λ z. may_do l j z a) (sym same) ∙ find-passes (λ z. may_do l j z a) (choices a.plan (history l j)) y e

    by_phase : (v : Bool)
        → (if v then refused Finished else answer_choices l j a (choices a.plan (history l j)) otherwise).event ≡ Some (Did j x)
        → may_do l j x a ≡ true
    by_phase true is = let bad : None ≡ Some (Did j x) = is in cc
    by_phase false is = by_find (find (λ y. may_do l j y a) (choices a.plan (history l j))) refl is

module _ (s : State) (who : Option (List ℕ)) (id : ℕ) (r : Record) (x : Item) (seen : IsSeen s who id r) where
  by_choices : (choices : Planned → List Item → List Item) (otherwise : Refusal)
      → answer_move s.ledger id choices otherwise (seen_journey s.ledger who id) ≡ moves id r.plan r.cursor x
      → may_do s.ledger id x (begun_as r) ≡ true
  by_choices choices otherwise answered =
      chosen_allowed s.ledger id (begun_as r) choices otherwise x
      (subst (λ o. (answer_move s.ledger id choices otherwise o).event ≡ Some (Did id x)) seen.seen
      (ap (λ (a : Answer). a.event) answered))

  -- of an answer to each motion
  item_allowed : (why : Motion) → Fits id r.plan r.cursor (answer_within s.ledger who (asked_for id why)) (Ok x)
      → may_do s.ledger id x (begun_as r) ≡ true
  item_allowed motion.Refused answered = by_choices step_choices NoSavePoint answered
  item_allowed (motion.Abort p) answered = by_choices (abort_choices p) NoSavePoint answered
  item_allowed motion.Stop answered = by_choices stop_choices NoSavePoint answered
  item_allowed motion.Save answered = by_choices save_choices NoSave answered

-- Numbers.

module _ (plan : Planned) (h : List Item) (f : Follows plan h) where
  -- a target is no further than the last step
  target_within : (p : ℕ) → IsTarget plan (is_taken h) (position_of h) p → p ≤ step_count plan
  target_within p (inl start) = omega (arith, start)
  target_within p (inr save) =
      elim (or_cases (is_marked_at plan p && nat_le p (position_of h)) (is_taken h p) save) [
        | inl marked ↦ (
            let low = leb-true p (position_of h) (and_parts (is_marked_at plan p) (nat_le p (position_of h)) marked).1 in
            let within = f.within in
            omega (arith, low, within))
        | inr taken ↦ (
            let reached = (f.taken p taken).reached in
            let within = f.within in
            omega (arith, reached, within))
      ]

  asked_within : (p : ℕ) (ph : Phase) → may_turn plan h ph p ≡ true → p ≤ step_count plan
  asked_within p Run may = target_within p (asked-target plan (is_taken h) (position_of h) p None may)
  asked_within p (Back q) may = target_within p (asked-target plan (is_taken h) (position_of h) p (Some q) may)
  asked_within p _ may = cc

  -- a turn that may come has such a target
  turn_target : (fit : Bool) (p : ℕ) (why : Cause) → may_come plan h fit (item.Turn p why) ≡ true → p ≤ step_count plan
  turn_target fit p cause.Stop may =
      target_within p (last_save-target plan (is_taken h) (position_of h) p (stop-comes plan h fit p may).1)
  turn_target fit p cause.Refused may =
      target_within p (refused-target plan (is_taken h) (position_of h) _ p (refused-comes plan h fit p may).target)
  turn_target fit p cause.Asked may = asked_within p (phase plan h) may

-- a turn that the rules answer has a target in the plan
pub turn_possible : (s : State) → IsDesk s → (who : Option (List ℕ)) (id : ℕ) (r : Record) (p : ℕ) (cause : Cause) → IsSeen s who id r
    → (why : Motion) → Fits id r.plan r.cursor (answer_within s.ledger who (asked_for id why)) (Ok (item.Turn p cause)) → p ≤ step_count r.plan
turn_possible s desk who id r p cause seen why answered =
    let h = history s.ledger id in
    turn_target r.plan h (follows s.ledger desk.legal id (begun_as r) seen.at) (fits s.ledger (next_want r.plan h)) p cause
    (item_allowed s who id r (item.Turn p cause) seen why answered)
