-- Where a journey may be in its up-and-down word: on its way up, on its way down, or all the way down. What its phase is
-- there, and what that says of its whole word. For each item that may come, and for the law of words.
use Rattle.std.proofs.Common.{◌≡◌, ℕ, ◌<◌, ◌≤◌, ◌⊎◌, List, ◌++◌, ap, sym, ◌∙◌, arith, append_assoc, eqb-true, Bool, true, false, ◌==◌, Some, IsTrue, [], subst, append-nil, inl, inr}
use Rattle.std.proofs.lemmas.Bool.{eqb-false}
use Rattle.std.proofs.lemmas.Bool.Decides.{nat_tests}
use Rattle.allotment.specs.Cells.{numbers_from}
use Rattle.plan.specs.PlanModel.{Planned, step_count}
use Rattle.commands.specs.declared.items.Item.{Item}
use Rattle.commands.specs.declared.items.Phase.{Phase}
use Rattle.commands.specs.declared.items.Phase.TheVariants.{Run, Back, Ended, Undone}
use Rattle.ledger.specs.History.{position_of, going_to, is_save_point, has_turned_to_start, phase, is_running, is_going_back}
use Rattle.ledger.specs.Word.{word, up, Returns, IsTurnPart, GoesToEnd, GoesToStart, BeginsUpAndDown}
use Rattle.ledger.proofs.Taking.{HasTries}
use Rattle.ledger.proofs.Standing.{standing}
use Rattle.ledger.proofs.Numbers.{word-append, up-join, down-join, rise, fall, word-rise, word-fall}

-- the items since the journey was at `from`, about to go up
pub record Since (plan : Planned) (h : List Item) (from : ℕ) : Type 0 where
  pub before : List Item
  pub part : List Item
  pub returns : Returns plan before from
  pub whole : h ≡ before ++ part

-- more items belong to the last part of the history
abbrev pub since-append : {plan : Planned} {h : List Item} {from : ℕ} → Since plan h from → (more : List Item)
    → Since plan (h ++ more) from
since-append s more = record {
  before = s.before;
  part = s.part ++ more;
  returns = s.returns;
  whole = ap (λ g. g ++ more) s.whole ∙ append_assoc s.before s.part more;
}

-- if the last part goes up to the end, so does the history
pub goes_to_end : {plan : Planned} {h : List Item} {from : ℕ} (s : Since plan h from) → from ≤ step_count plan
    → word s.part ≡ up from (step_count plan) → GoesToEnd plan h
goes_to_end {from = from} s low reads = grind arith

-- if the last part goes up and down to the start, so does the history
pub goes_to_start : {plan : Planned} {h : List Item} {from : ℕ} (s : Since plan h from) (top : ℕ)
    → IsTurnPart plan from top 0 s.part → GoesToStart plan h
goes_to_start {from = from} s top turns = grind arith

-- the journey is on its way up: since it last was at `from` it did the steps from there on
pub record Rising (plan : Planned) (h : List Item) : Type 0 where
  pub from : ℕ
  pub since : Since plan h from
  pub low : from ≤ position_of h
  pub within : position_of h ≤ step_count plan
  pub reads : word since.part ≡ up from (position_of h)
  pub unturned : has_turned_to_start h ≡ false
  -- it is at the target of its last turn, or below
  pub arrived : (p : ℕ) → going_to h ≡ Some p → position_of h ≤ p

-- the journey is on its way down to a target: from `from` it went up to `top`, and is on the way
-- down
pub record Falling (plan : Planned) (h : List Item) : Type 0 where
  pub from : ℕ
  pub since : Since plan h from
  pub top : ℕ
  pub turns : IsTurnPart plan from top (position_of h) since.part
  pub target : ℕ
  pub going : going_to h ≡ Some target
  pub above : target < position_of h
  pub turned : has_turned_to_start h ≡ (0 == target)
  -- the target is the start, or a save-point
  pub kept : (target ≡ 0) ⊎ IsTrue (is_save_point plan h target)

-- the journey went all the way down
pub record Fallen (plan : Planned) (h : List Item) : Type 0 where
  pub start : GoesToStart plan h
  pub low : position_of h ≡ 0
  pub turned : has_turned_to_start h ≡ true

-- one of these three
pub data Mode (plan : Planned) (h : List Item) : Type 0 where
  rises : Rising plan h → Mode plan h
  falls : Falling plan h → Mode plan h
  fell : Fallen plan h → Mode plan h

-- the journey follows an up-and-down word, steps 1 to its position stand, and it has a try left unless it has turned to
-- its start
pub record Goes (plan : Planned) (h : List Item) : Type 0 where
  pub stands : standing h ≡ numbers_from 1 (position_of h)
  pub mode : Mode plan h
  pub tries : HasTries plan h

-- no journey is above its end
pub position_of-most : (plan : Planned) (h : List Item) → Mode plan h → position_of h ≤ step_count plan
position_of-most plan h x = grind arith

-- Phases.

-- on its way up, and not at its end, a journey runs
pub phase-rising : (plan : Planned) (h : List Item) → Rising plan h
    → position_of h < step_count plan → phase plan h ≡ Run
phase-rising plan h r below = grind (arith, nat_tests, r.unturned, r.arrived)

-- where all its steps stand, it has ended
pub phase-ended : (plan : Planned) (h : List Item) → position_of h ≡ step_count plan
    → phase plan h ≡ Ended
phase-ended plan h e = grind (arith, nat_tests)

-- on its way down it goes back to its target
pub phase-falling : (plan : Planned) (h : List Item) (f : Falling plan h)
    → phase plan h ≡ Back f.target
phase-falling plan h f = grind (arith, nat_tests, f.going, f.above, f.turns.falls, f.turns.short)

-- all the way down it is undone
pub phase-fallen : (plan : Planned) (h : List Item) → Fallen plan h → phase plan h ≡ Undone
phase-fallen plan h f = grind (arith, nat_tests, f.turned, f.low, f.start.turns.short)

-- What a phase says of the mode.

-- on its way up a journey runs, or it has ended
pub data Upward (plan : Planned) (h : List Item) : Type 0 where
  runs : position_of h < step_count plan → phase plan h ≡ Run → Upward plan h
  ended : position_of h ≡ step_count plan → phase plan h ≡ Ended → Upward plan h

-- by whether it is at its end
pub upward : (plan : Planned) (h : List Item) → Rising plan h → Upward plan h
upward plan h r = grind (arith, eqb-true, phase-ended, eqb-false, phase-rising)

-- two phases for which a test answers differently are different
pub told_apart : {X : Type 0} (test : Phase → Bool) (p q : Phase) → test p ≡ true → p ≡ q
    → test q ≡ false → X
told_apart test p q passes same fails = grind arith

-- a running journey is on its way up, and not at its end
pub running-rises : (plan : Planned) (h : List Item) → Mode plan h
    → is_running (phase plan h) ≡ true → Rising plan h × (position_of h < step_count plan)
running-rises plan h x run = grind (arith, upward, phase-falling, phase-fallen)

-- a journey that goes back is on its way down
pub going_back-falls : (plan : Planned) (h : List Item) → Mode plan h
    → is_going_back (phase plan h) ≡ true → Falling plan h
going_back-falls plan h x back = search (arith, upward, phase-fallen)

-- What the mode of a journey says of its whole word.

-- in each mode the history begins an up-and-down word: it is completed by the steps that are left, or by the compensations
pub begins-word : (plan : Planned) (h : List Item) → Goes plan h → BeginsUpAndDown plan h
begins-word plan h g = elim g.mode [
  | rises r ↦ (
    rise (position_of h) (step_count plan),
    inl (grind (arith, rise, goes_to_end, word-append, append_assoc, word-rise, up-join)),
  )
  | falls f ↦ (
    fall (position_of h) 0,
    inr (grind (arith, fall, goes_to_start, word-append, append_assoc, word-fall, down-join)),
  )
  | fell f ↦ ([], inr (subst (GoesToStart plan) (sym (append-nil h)) f.start))
]

-- an ended journey went up to its end, and all its steps stand
pub ended-word : (plan : Planned) (h : List Item) → Goes plan h → phase plan h ≡ Ended
    → GoesToEnd plan h × (standing h ≡ numbers_from 1 (step_count plan))
ended-word plan h g e = search (arith, standing, upward, goes_to_end, phase-falling, phase-fallen)

-- an undone journey went all the way down, and no step stands
pub undone-word : (plan : Planned) (h : List Item) → Goes plan h → phase plan h ≡ Undone
    → GoesToStart plan h × (standing h ≡ [])
undone-word plan h g e = by_mode g.mode
  where
    by_mode : Mode plan h → GoesToStart plan h × (standing h ≡ [])
    by_mode (rises r) = grind (arith, upward)
    by_mode (falls f) = cc (phase-falling plan h f)
    by_mode (fell f) = (f.start, g.stands ∙ ap (numbers_from 1) f.low)
