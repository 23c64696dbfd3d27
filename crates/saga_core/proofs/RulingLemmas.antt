-- The answers of the rules to turns and save-points are the rulings on them. For who executes them.
use Rattle.std.proofs.Common.{◌≡◌, ℕ, Bool, List, Some, refl, ap, ◌∙◌, if◌then◌else◌, Ok, Err, arith}
use Rattle.plan.specs.PlanModel.{Planned}
use Rattle.plan.specs.Marks.{is_taken_in}
use Rattle.plan.specs.Turns.{may_be_made}
use Rattle.plan.specs.declared.turns.Turn.TheVariants as turn
use Rattle.commands.specs.declared.items.Cause.TheVariants as causes
use Rattle.commands.specs.declared.items.Cursor.{Cursor}
use Rattle.commands.specs.declared.items.Item.{Item}
use Rattle.commands.specs.declared.items.Item.TheVariants as item
use Rattle.commands.specs.declared.items.Phase.{Phase}
use Rattle.commands.specs.declared.items.Phase.TheVariants.{Run, Back, Ended, Undone}
use Rattle.commands.specs.declared.replies.Refusal.{Refusal}
use Rattle.commands.specs.declared.replies.Refusal.TheVariants.{NoSavePoint, NoSave}
use Rattle.ledger.specs.Replies.{Answer, refused, answer_move, abort_choices, stop_choices, save_choices}
use Rattle.ledger.specs.Ledger.{Event, Journey, journey_at, history, IsLegal}
use Rattle.ledger.specs.History.{position_of, phase, is_finished}
use Rattle.ledger.specs.AnswerChanges.{moves}
use Rattle.ledger.specs.JourneyChanges.{target_of}
use Rattle.ledger.specs.Cursors.{cursor_of, marks_of}
use Rattle.ledger.proofs.Answering.{abort-answer, stop-answer, save-answer, save-back, runs, goes_back}
use Rattle.ledger.proofs.Histories.{follows}
use Rattle.ledger.proofs.Moves.{move-finished}
use Rattle.ledger.proofs.Taken.{last_save_by-marks, is_save_point_by-marks}
use Rattle.saga_core.specs.Rulings.{turn_said, save_said, Fits}

-- one of two answers, by a test, is one of two moves, by the same test
by_test : (b : Bool) (j : ℕ) (plan : Planned) (c : Cursor) (x : Item) (why : Refusal) (a : Answer)
    → a ≡ (if b then moves j plan c x else refused why)
    → Fits j plan c a (if b then Ok x else Err why)
by_test b j plan c x why a e = grind arith

-- of a journey in a legal ledger
module _ (l : List Event) (legal : IsLegal l) (j : ℕ) (a : Journey) (at : journey_at l j ≡ Some a) where
  -- its items
  abbrev h : List Item
  h = history l j

  -- the cursor of the journey
  abbrev c : Cursor
  c = cursor_of a.plan (history l j)

  -- The answers, by the phase.

  abort-by_phase : (p : Phase) → phase a.plan h ≡ p → (q : ℕ)
      → Fits j a.plan c (answer_move l j (abort_choices q) NoSavePoint (Some a))
      (turn_said a.plan (record c { phase = p }) (marks_of h) (turn.Asked q) causes.Asked)
  abort-by_phase Run e q = grind (arith, by_test, abort-answer, runs)
  abort-by_phase (Back r) e q =
      by_test _ j a.plan c (item.Turn q causes.Asked) NoSavePoint _
      (abort-answer l j a q legal at (goes_back r e)
      ∙ ap (λ p. if may_be_made a.plan (is_taken_in (marks_of h)) (position_of h) (target_of p)
      (turn.Asked q) then moves j a.plan c (item.Turn q causes.Asked) else refused NoSavePoint) e)
  abort-by_phase Ended e q = move-finished l j (abort_choices q) NoSavePoint a (ap is_finished e)
  abort-by_phase Undone e q = move-finished l j (abort_choices q) NoSavePoint a (ap is_finished e)

  stop-by_phase : (p : Phase) → phase a.plan h ≡ p
      → Fits j a.plan c (answer_move l j stop_choices NoSavePoint (Some a))
      (turn_said a.plan (record c { phase = p }) (marks_of h) turn.Stop causes.Stop)
  stop-by_phase Run e = grind (arith, stop-answer, runs, last_save_by-marks, follows)
  stop-by_phase (Back r) e = grind (arith, stop-answer, goes_back)
  stop-by_phase Ended e = move-finished l j stop_choices NoSavePoint a (ap is_finished e)
  stop-by_phase Undone e = move-finished l j stop_choices NoSavePoint a (ap is_finished e)

  save-by_phase : (p : Phase) → phase a.plan h ≡ p
      → Fits j a.plan c (answer_move l j save_choices NoSave (Some a))
      (save_said a.plan (record c { phase = p }) (marks_of h))
  save-by_phase p e = grind (arith, by_test, save-answer, is_save_point_by-marks, follows, save-back, move-finished)

  -- the answer to an abort is its ruling
  pub abort_ruled : (q : ℕ) → Fits j a.plan c (answer_move l j (abort_choices q) NoSavePoint (Some a))
      (turn_said a.plan c (marks_of h) (turn.Asked q) causes.Asked)
  abort_ruled q = abort-by_phase (phase a.plan h) refl q

  -- so is that to a stop
  pub stop_ruled : Fits j a.plan c (answer_move l j stop_choices NoSavePoint (Some a)) (turn_said a.plan c (marks_of h) turn.Stop causes.Stop)
  stop_ruled = stop-by_phase (phase a.plan h) refl

  -- and that to a save-point
  pub save_ruled : Fits j a.plan c (answer_move l j save_choices NoSave (Some a)) (save_said a.plan c (marks_of h))
  save_ruled = save-by_phase (phase a.plan h) refl
