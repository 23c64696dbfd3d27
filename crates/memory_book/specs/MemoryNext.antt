-- The result of a journey's motion, by what is kept of the journey: an item, or why there is none.
use Rattle.std.specs.Prelude.{ℕ, ◌+◌, ◌-◌, Bool, List, slice_index, if◌then◌else◌, Result, Ok, Err}
use Rattle.std.specs.FinSet as set
use Rattle.std.specs.Ordering.{nat_cmp}
use Rattle.plan.specs.PlanModel.{Planned}
use Rattle.plan.specs.Marks.{is_taken_in}
use Rattle.plan.specs.Rules as rules
use Rattle.commands.specs.declared.items.Cause.TheVariants as cause
use Rattle.commands.specs.declared.items.Cursor.{Cursor}
use Rattle.commands.specs.declared.items.Item.{Item}
use Rattle.commands.specs.declared.items.Item.TheVariants as item
use Rattle.commands.specs.declared.replies.Refusal.{Refusal}
use Rattle.commands.specs.declared.replies.Refusal.TheVariants.{Finished}
use Rattle.ledger.specs.History.{is_going_back, is_finished}
use Rattle.commands.specs.Request as request
use Rattle.commands.specs.Request.{Request}
use Rattle.plan.specs.declared.turns.Turn.TheVariants as turn
use Rattle.memory_book.specs.declared.next.Motion.{Motion}
use Rattle.memory_book.specs.declared.next.Motion.TheVariants.{Step, Abort, Stop, Save}
pub use Rattle.saga_core.specs.Rulings.{turn_said, save_said}

-- a step goes back by the last option that was taken; or goes forward; or turns if its want does not fit
abbrev pub step_said : Planned → Cursor → set.FinSet nat_cmp → List ℕ → Bool → Result Item Refusal
step_said plan c marks taken fits =
    if is_finished c.phase then Err Finished
    else if is_going_back c.phase
    then Ok (item.Compensation c.pos (slice_index taken (c.pos - 1)))
    else if fits then Ok (item.Transaction (c.pos + 1) (rules.next_option plan c.pos c.used))
    else Ok (item.Turn (rules.refused_target plan (is_taken_in marks) c.pos c.used) cause.Refused)

-- the request for a motion of the journey with this number
abbrev pub request_for : Motion → ℕ → Request
request_for Step id = request.Step id
request_for (Abort p) id = request.Abort id p
request_for Stop id = request.Stop id
request_for Save id = request.Save id

-- the result of a motion; the flag says whether the next want fits
abbrev pub motion_said : Motion → Planned → Cursor → set.FinSet nat_cmp → List ℕ → Bool → Result Item Refusal
motion_said Step plan c marks taken fits = step_said plan c marks taken fits
motion_said (Abort p) plan c marks taken fits = turn_said plan c marks (turn.Asked p) cause.Asked
motion_said Stop plan c marks taken fits = turn_said plan c marks turn.Stop cause.Stop
motion_said Save plan c marks taken fits = save_said plan c marks
