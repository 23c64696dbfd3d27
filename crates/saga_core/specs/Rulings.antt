-- Turns and save-points: for each request about a journey but its next step, the item that it makes, or its refusal.
use Rattle.std.specs.Prelude.{◌≡◌, ℕ, ◌&&◌, not, nat_lt, if◌then◌else◌, Result, Ok, Err, MatchResult}
use Rattle.std.specs.FinSet as set
use Rattle.std.specs.Ordering.{nat_cmp}
use Rattle.plan.specs.PlanModel.{Planned}
use Rattle.plan.specs.Marks.{is_taken_in}
use Rattle.plan.specs.Rules as rules
use Rattle.plan.specs.Turns.{turn_target, may_be_made}
use Rattle.plan.specs.declared.turns.Turn.{Turn}
use Rattle.commands.specs.declared.items.Cause.{Cause}
use Rattle.commands.specs.declared.items.Cursor.{Cursor}
use Rattle.commands.specs.declared.items.Item.{Item}
use Rattle.commands.specs.declared.items.Item.TheVariants as item
use Rattle.commands.specs.declared.replies.Refusal.{Refusal}
use Rattle.commands.specs.declared.replies.Refusal.TheVariants.{Finished, NoSavePoint, NoSave}
use Rattle.ledger.specs.History.{is_running, is_finished}
use Rattle.ledger.specs.Replies.{Answer, refused}
use Rattle.ledger.specs.AnswerChanges.{moves}
use Rattle.ledger.specs.JourneyChanges.{target_of}

-- the turn to the target of the rules, if it may be made
abbrev pub turn_said : Planned → Cursor → set.FinSet nat_cmp → Turn → Cause → Result Item Refusal
turn_said plan c marks why cause =
    if is_finished c.phase then Err Finished
    else if may_be_made plan (is_taken_in marks) c.pos (target_of c.phase) why
    then Ok (item.Turn (turn_target plan (is_taken_in marks) c.pos c.used why) cause)
    else Err NoSavePoint

-- a save-point may be taken if the journey runs, is above its start, and has no save-point there
abbrev pub save_said : Planned → Cursor → set.FinSet nat_cmp → Result Item Refusal
save_said plan c marks =
    if is_finished c.phase then Err Finished
    else if is_running c.phase && nat_lt 0 c.pos
    && not (rules.is_save_point plan (is_taken_in marks) c.pos c.pos)
    then Ok (item.Save c.pos) else Err NoSave

-- the rules answer with this result of a move: its item is made, or it is refused
abbrev pub Fits : ℕ → Planned → Cursor → Answer → Result Item Refusal → Type 0
Fits j plan c answered next = MatchResult next (λ x. answered ≡ moves j plan c x) (λ why. answered ≡ refused why)
