-- The answer to each request about a journey, by its cursor, the save-points that it took, and whether its next want
-- fits. For each desk that stores these.
use Rattle.std.proofs.Common.{◌≡◌, ℕ, ◌+◌, List, refl, ap, sym, ◌∙◌, arith, Bool, true, false, not, ◌==◌, ◌&&◌, nat_lt, if◌then◌else◌, Some}
use Rattle.std.proofs.lemmas.Bool.{false_from_ne_true}
use Rattle.std.proofs.lemmas.Bool.Decides.{nat_tests}
use Rattle.plan.specs.PlanModel.{Planned}
use Rattle.plan.specs.Marks.{is_taken_in}
use Rattle.plan.specs.Turns.{may_be_made}
use Rattle.plan.specs.declared.turns.Turn.TheVariants as turn
use Rattle.commands.specs.declared.items.Cause.TheVariants.{Stop, Refused, Asked}
use Rattle.commands.specs.declared.items.Item.{Item}
use Rattle.commands.specs.declared.items.Item.TheVariants.{Transaction, Compensation, Turn, Save}
use Rattle.commands.specs.declared.items.Phase.{Phase}
use Rattle.commands.specs.declared.items.Phase.TheVariants.{Run, Back}
use Rattle.commands.specs.declared.replies.Refusal.TheVariants.{NoSavePoint, NoSave}
use Rattle.ledger.specs.History.{net, position_of, is_taken, is_save_point, last_save, refused_target, next_option, next_want, phase, is_running, is_going_back, is_finished, may_turn, last_of}
use Rattle.ledger.specs.Ledger.{Event, Journey, journey_at, history, fits, IsLegal}
use Rattle.ledger.specs.Replies.{refused, step_choices, abort_choices, stop_choices, save_choices, answer_move}
use Rattle.ledger.specs.Recovery.{is_forward}
use Rattle.ledger.proofs.Coming.{step-may_come, refused-may_come, compensation-may_come}
use Rattle.ledger.specs.AnswerChanges.{moves}
use Rattle.ledger.specs.JourneyChanges.{target_of}
use Rattle.ledger.specs.Cursors.{cursor_of, marks_of}
use Rattle.ledger.proofs.Deciding.{finished-none, one-step}
use Rattle.ledger.proofs.Histories.{follows}
use Rattle.ledger.proofs.Ledgers.{all_go}
use Rattle.ledger.proofs.Moves.{may, move-found, move-only}
use Rattle.ledger.proofs.Taken.{taken_by-marks}

-- the first choice of a step: the next transaction
abbrev pub next_step : Planned → List Item → Item
next_step plan h = Transaction (position_of h + 1) (next_option plan h)

-- Steps.

-- to a step: of the items that a step makes, the one that may come next
pub step-answer : (l : List Event) (j : ℕ) (a : Journey) (x : Item) → IsLegal l
    → journey_at l j ≡ Some a
    → is_forward x ≡ true → may l j a x ≡ true
    → answer_move l j step_choices NoSavePoint (Some a)
    ≡ moves j a.plan (cursor_of a.plan (history l j)) x
step-answer l j a x legal at forward comes =
    let unfinished = false_from_ne_true _ (λ e. finished-none a.plan (history l j) _ x e comes) in
    let one = one-step a.plan (history l j) (fits l (next_want a.plan (history l j))) ((all_go l legal).go j a at) (ap not unfinished) in
    move-found l j step_choices NoSavePoint a x legal at unfinished (one.found ∙ sym (ap Some (one.alone x forward comes)))

-- to a step of a running journey whose next want fits: the next transaction
pub step-fits : (l : List Event) (j : ℕ) (a : Journey) → IsLegal l → journey_at l j ≡ Some a
    → phase a.plan (history l j) ≡ Run → fits l (next_want a.plan (history l j)) ≡ true
    → answer_move l j step_choices NoSavePoint (Some a)
    ≡ moves j a.plan (cursor_of a.plan (history l j)) (next_step a.plan (history l j))
step-fits l j a legal at run fitting =
    step-answer l j a _ legal at refl (step-may_come a.plan (history l j) _ (ap is_running run) fitting)

-- where the next want does not fit: the refused turn
pub step-refused : (l : List Event) (j : ℕ) (a : Journey) → IsLegal l → journey_at l j ≡ Some a
    → phase a.plan (history l j) ≡ Run → fits l (next_want a.plan (history l j)) ≡ false
    → answer_move l j step_choices NoSavePoint (Some a)
    ≡ moves j a.plan (cursor_of a.plan (history l j))
    (Turn (refused_target a.plan (history l j)) Refused)
step-refused l j a legal at run unfitting =
    step-answer l j a _ legal at refl (refused-may_come a.plan (history l j) _ (ap is_running run) unfitting)

-- to a step of a journey that goes back: the compensation of its last transaction
pub step-back : (l : List Event) (j : ℕ) (a : Journey) (p i c : ℕ) → IsLegal l
    → journey_at l j ≡ Some a
    → phase a.plan (history l j) ≡ Back p → last_of (net (history l j)) ≡ Some (i, c)
    → answer_move l j step_choices NoSavePoint (Some a)
    ≡ moves j a.plan (cursor_of a.plan (history l j)) (Compensation i c)
step-back l j a p i c legal at back last =
    step-answer l j a _ legal at refl
    (compensation-may_come a.plan (history l j) (fits l (next_want a.plan (history l j))) i c (ap is_going_back back) last)

-- Turns.

-- an open journey runs or goes back
pub data Open (p : Phase) : Type 0 where
  runs : p ≡ Run → Open p
  goes_back : (q : ℕ) → p ≡ Back q → Open p

-- an open journey is not finished
open-unfinished : (p : Phase) → Open p → is_finished p ≡ false
open-unfinished p o = grind arith

-- in this phase a caller may turn the journey, by the rule for turns
abort-rule : (plan : Planned) (h : List Item) (p : ℕ) (q : Phase) → Open q
    → may_turn plan h q p ≡ may_be_made plan (is_taken h) (position_of h) (target_of q)
    (turn.Asked p)
abort-rule plan h p q o = grind arith

-- to an abort: the turn if it may be made
pub abort-answer : (l : List Event) (j : ℕ) (a : Journey) (p : ℕ) → IsLegal l
    → journey_at l j ≡ Some a
    → Open (phase a.plan (history l j))
    → answer_move l j (abort_choices p) NoSavePoint (Some a)
    ≡ (if may_be_made a.plan (is_taken_in (marks_of (history l j))) (position_of (history l j))
    (target_of (phase a.plan (history l j))) (turn.Asked p)
    then moves j a.plan (cursor_of a.plan (history l j)) (Turn p Asked) else refused NoSavePoint)
abort-answer l j a p legal at o =
    move-only l j (abort_choices p) NoSavePoint a (Turn p Asked) _ legal at
    (open-unfinished _ o) refl
    (abort-rule a.plan (history l j) p (phase a.plan (history l j)) o
    ∙ ap (λ taken. may_be_made a.plan taken (position_of (history l j))
    (target_of (phase a.plan (history l j))) (turn.Asked p))
    (taken_by-marks a.plan (history l j) (follows l legal j a at)))

-- a stop turns a running journey only
stop-rule : (plan : Planned) (h : List Item) (q : Phase) (taken : ℕ → Bool) → Open q
    → (is_running q && (last_save plan h == last_save plan h))
    ≡ may_be_made plan taken (position_of h) (target_of q) turn.Stop
stop-rule plan h q taken o = grind (arith, nat_tests)

-- to a stop: the turn to the last save-point if it may be made
pub stop-answer : (l : List Event) (j : ℕ) (a : Journey) → IsLegal l → journey_at l j ≡ Some a
    → Open (phase a.plan (history l j))
    → answer_move l j stop_choices NoSavePoint (Some a)
    ≡ (if may_be_made a.plan (is_taken_in (marks_of (history l j))) (position_of (history l j))
    (target_of (phase a.plan (history l j))) turn.Stop
    then moves j a.plan (cursor_of a.plan (history l j))
    (Turn (last_save a.plan (history l j)) Stop)
    else refused NoSavePoint)
stop-answer l j a legal at o = search (arith, move-only, open-unfinished, stop-rule)

-- Save-points.

-- a save-point may be taken where the journey runs, above the start, and none stands yet
save-rule : (plan : Planned) (h : List Item) (q : Phase) → q ≡ Run
    → (is_running q && (position_of h == position_of h) && nat_lt 0 (position_of h)
    && not (is_save_point plan h (position_of h)))
    ≡ (nat_lt 0 (position_of h) && not (is_save_point plan h (position_of h)))
save-rule plan h q e = grind (arith, nat_tests)

-- to taking a save-point in a running journey
pub save-answer : (l : List Event) (j : ℕ) (a : Journey) → IsLegal l → journey_at l j ≡ Some a
    → phase a.plan (history l j) ≡ Run
    → answer_move l j save_choices NoSave (Some a)
    ≡ (if nat_lt 0 (position_of (history l j))
    && not (is_save_point a.plan (history l j) (position_of (history l j)))
    then moves j a.plan (cursor_of a.plan (history l j)) (Save (position_of (history l j)))
    else refused NoSave)
save-answer l j a legal at run =
    move-only l j save_choices NoSave a (Save (position_of (history l j))) _ legal at
    (ap is_finished run) refl (save-rule a.plan (history l j) (phase a.plan (history l j)) run)

-- to taking a save-point in a journey that goes back: a refusal
pub save-back : (l : List Event) (j : ℕ) (a : Journey) (p : ℕ) → IsLegal l → journey_at l j ≡ Some a
    → phase a.plan (history l j) ≡ Back p
    → answer_move l j save_choices NoSave (Some a) ≡ refused NoSave
save-back l j a p legal at back = grind (arith, move-only)
