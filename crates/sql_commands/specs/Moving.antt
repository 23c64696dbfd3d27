-- What a move of a journey requests, its outcome, and what it leaves.
use Rattle.std.specs.Prelude.{◌≡◌, ℕ, ◌+◌, ◌≤◌, Bool, false, List, ⊤, Option, Some, None, Result, Ok, Err, ◌<◌}
use Rattle.allotment.specs.Want.{Wanted}
use Rattle.plan.specs.Limits.{most_options}
use Rattle.plan.specs.PlanModel.{Planned, want_at}
use Rattle.commands.specs.Asks.{Asked}
use Rattle.commands.specs.Request as request
use Rattle.commands.specs.Request.{Request}
use Rattle.commands.specs.declared.items.Cause.{Cause}
use Rattle.commands.specs.declared.items.Cause.TheVariants as causes
use Rattle.commands.specs.declared.items.Cursor.{Cursor}
use Rattle.commands.specs.declared.items.Item.{Item}
use Rattle.commands.specs.declared.items.Item.TheVariants as item
use Rattle.commands.specs.declared.items.Phase.TheVariants.{Run}
use Rattle.commands.specs.declared.replies.Refusal.{Refusal}
use Rattle.commands.specs.declared.replies.Refusal.TheVariants.{Finished}
use Rattle.ledger.specs.Answer.{State, asker, answer_within, kept_for}
use Rattle.ledger.specs.History.{net, last_of}
use Rattle.ledger.specs.Ledger.{Journey, journey_at, history, fits}
use Rattle.ledger.specs.Replies.{Answer, seen_journey}
use Rattle.plan.specs.Rules as rules
use Rattle.ledger.specs.JourneyChanges.{cursor_after}
use Rattle.saga_core.specs.declared.records.Record.{Record}
use Rattle.sql_model.specs.Standing.{IsDesk}
use Rattle.sql_writes.specs.declared.events.Event.{Event}
use Rattle.sql_writes.specs.declared.events.Event.TheVariants.{Transaction, Compensation, Turn, Save}
use Rattle.sql_commands.specs.Answering.{AreNext}
use Rattle.saga_core.specs.Cursors.{stepped_up, stepped_down, turned_to}
use Rattle.sql_commands.specs.Placing.{IsSeen}
use Rattle.saga_core.specs.Rulings.{Fits}
use Rattle.sql_reads.specs.Reading.{stand_of}
use Rattle.sql_reads.specs.declared.reads.Stand.{Stand}
use Rattle.sql_reads.specs.declared.plan_rows.Choice.{Choice}
use Rattle.sql_commands.specs.declared.step_outcome.Coming.{Coming}
use Rattle.sql_commands.specs.declared.step_outcome.Coming.TheVariants as coming
use Rattle.sql_commands.specs.declared.cursors.Found.{Found}
use Rattle.sql_commands.specs.declared.cursors.Made.{Made}
use Rattle.sql_commands.specs.declared.moves.Motion.{Motion}
use Rattle.sql_commands.specs.declared.moves.Motion.TheVariants as motion

-- the request for a move of the journey with this number
abbrev pub asked_for : ℕ → Motion → Request
asked_for id motion.Refused = request.Step id
asked_for id (motion.Abort p) = request.Abort id p
asked_for id motion.Stop = request.Stop id
asked_for id motion.Save = request.Save id

-- if the journey runs, `fitting` says whether its next want fits
abbrev pub FitsNext : Record → State → Bool → Type 0
FitsNext r s fitting =
    r.cursor.phase ≡ Run → fitting ≡ fits s.ledger (rules.next_want r.plan r.cursor.pos r.cursor.used)

-- if this is the last step of the journey that stands, it took this option
abbrev pub IsLastOption : ℕ → ℕ → State → ℕ → Type 0
IsLastOption id step s option =
    (a : Journey) (c : ℕ) → journey_at s.ledger id ≡ Some a
    → last_of (net (history s.ledger id)) ≡ Some (step, c) → option ≡ c

-- the journey runs, and its next want does not fit
abbrev pub IsStuck : Record → State → Type 0
IsStuck r s = (r.cursor.phase ≡ Run) × FitsNext r s false

-- if the move is that of a refused step, the journey runs, and its next want does not fit
abbrev pub IsUnfit : ℕ → Motion → State → Type 0
IsUnfit id motion.Refused s = (who : Option (List ℕ)) (r : Record) → IsSeen s who id r → IsStuck r s
IsUnfit id (motion.Abort p) s = ⊤
IsUnfit id motion.Stop s = ⊤
IsUnfit id motion.Save s = ⊤

-- for each caller who sees the journey, the rules answer a move of it by this item, or by this refusal
abbrev pub IsNext : ℕ → Record → Motion → State → Result Item Refusal → Type 0
IsNext id r why s next =
    (who : Option (List ℕ)) → IsSeen s who id r → IsUnfit id why s
    → Fits id r.plan r.cursor (answer_within s.ledger who (asked_for id why)) next

-- The event is that of this item, and has the cursor after it; if the item has a want, it is that of the plan.
abbrev pub Says : ℕ → Planned → Cursor → Item → Event → Type 0
Says id plan then (item.Transaction i c) e =
    (w : Wanted) × (want_at plan i c ≡ Some w)
    × (e ≡ Transaction (record { journey = id; step = i; option = c; want = w; cursor = then }))
Says id plan then (item.Compensation i c) e =
    (w : Wanted) × (want_at plan i c ≡ Some w)
    × (e ≡ Compensation (record { journey = id; step = i; option = c; want = w; cursor = then }))
Says id plan then (item.Turn p cause) e =
    e ≡ Turn (record { journey = id; target = p; cause = cause; cursor = then })
Says id plan then (item.Save p) e = e ≡ Save (record { journey = id; position = p })

-- the event is that of an item of a journey that was at this cursor
abbrev pub IsEventOf : ℕ → Planned → Cursor → Item → Event → Type 0
IsEventOf id plan at x e = Says id plan (cursor_after plan at x) x e

-- an item that answers no step: a turn, or a save-point at the journey's position
abbrev pub IsMove : Cursor → Item → Type 0
IsMove c (item.Turn p cause) = ⊤
IsMove c (item.Save p) = p ≡ c.pos
IsMove c _ = ⊥

-- the rules answer this item, and these are its event and the cursor after it
pub record IsNextMade (id : ℕ) (r : Record) (answered : Answer) (m : Made) : Type 0 where
  pub next : Fits id r.plan r.cursor answered (Ok m.item)
  pub says : IsEventOf id r.plan r.cursor m.item m.event
  pub cursor : m.cursor ≡ cursor_after r.plan r.cursor m.item

-- the next step of a journey, with this option
abbrev pub up_made : ℕ → Stand → Choice → Made
up_made id stand choice =
    let step = stand.cursor.pos + 1 in
    let then = stepped_up stand.steps stand.cursor in
    record {
      item = item.Transaction step choice.option;
      event = Transaction (record { journey = id; step = step; option = choice.option; want = choice.want; cursor = then });
      cursor = then;
    }

-- the compensation of the last standing step, with this option
abbrev pub down_made : ℕ → Stand → Choice → Made
down_made id stand choice =
    let step = stand.cursor.pos in
    let then = stepped_down stand.cursor in
    record {
      item = item.Compensation step choice.option;
      event = Compensation (record { journey = id; step = step; option = choice.option; want = choice.want; cursor = then });
      cursor = then;
    }

-- the turn of a journey to this target, for this cause
abbrev pub turn_made : ℕ → Stand → ℕ → Cause → Made
turn_made id stand target cause =
    let then = turned_to target cause stand.cursor in
    record {
      item = item.Turn target cause;
      event = Turn (record { journey = id; target = target; cause = cause; cursor = then });
      cursor = then;
    }

-- the save-point of a journey at its position
abbrev pub save_made : ℕ → Stand → Made
save_made id stand = record {
  item = item.Save stand.cursor.pos;
  event = Save (record { journey = id; position = stand.cursor.pos });
  cursor = stand.cursor;
}

-- a move of a journey at this cursor turns it back to its start for this cause, whatever its plan
abbrev pub LeadsToStart : Stand → Motion → Cause → Type 0
LeadsToStart stand motion.Refused cause = (stand.tries ≤ stand.cursor.used) × (cause ≡ causes.Refused)
LeadsToStart stand (motion.Abort p) cause = (p ≡ 0) × (stand.cursor.phase ≡ Run) × (cause ≡ causes.Asked)
LeadsToStart stand motion.Stop cause = ⊥
LeadsToStart stand motion.Save cause = ⊥

-- `fitting` says whether the want fits
abbrev pub FitsIn : Wanted → State → Bool → Type 0
FitsIn want s fitting = fitting ≡ fits s.ledger (Some want)

-- what the rows of a step imply: it is done, or compensated, with this option; its want does not fit; or there is no step
abbrev pub ComesFor : ℕ → Stand → State → Record → Answer → Coming → Type 0
ComesFor id stand s r answered (coming.Up choice) = IsNextMade id r answered (up_made id stand choice)
ComesFor id stand s r answered (coming.Down choice) = IsNextMade id r answered (down_made id stand choice)
ComesFor id stand s r answered coming.Refused = IsStuck r s
ComesFor id stand s r answered coming.Nothing = Fits id r.plan r.cursor answered (Err Finished)

-- the step or the compensation exists, and its option has a small number
abbrev pub MayCome : Stand → Coming → Type 0
MayCome stand (coming.Up choice) = (stand.cursor.pos < stand.steps) × (choice.option ≤ most_options)
MayCome stand (coming.Down choice) = (1 ≤ stand.cursor.pos) × (choice.option ≤ most_options)
MayCome stand _ = ⊤

-- this is the outcome of a step of the journey at this cursor
abbrev pub Comes : ℕ → Stand → State → Coming → Type 0
Comes id stand s c =
    (who : Option (List ℕ)) (r : Record) → IsSeen s who id r → stand_of r ≡ stand
    → ComesFor id stand s r (answer_within s.ledger who (request.Step id)) c

-- the numbers are those of the next event, and the caller sees a journey that is where it was found
pub record IsFound (who : Option (List ℕ)) (s : State) (found : Found) : Type 0 where
  pub counted : AreNext s found.numbers
  pub journey : Record
  pub seen : IsSeen s who found.id journey
  pub stand : stand_of journey ≡ found.stand

-- what is found of the journey of this number, or that the caller sees none
abbrev pub SeesFound : Option (List ℕ) → ℕ → State → Option Found → Type 0
SeesFound who id s None = seen_journey s.ledger who id ≡ None
SeesFound who id s (Some found) = IsFound who s found

-- the rules answer a move for which no reply is kept by this item of the journey that was found, or by this refusal
pub record IsDue (s : State) (ask : Option Asked) (found : Found) (why : Motion) (next : Result Item Refusal) : Type 0 where
  pub desk : IsDesk s
  pub new : kept_for s ask ≡ None
  pub here : IsFound (asker ask) s found
  pub answered : Fits found.id here.journey.plan here.journey.cursor (answer_within s.ledger (asker ask) (asked_for found.id why)) next

-- the event is that of an item that the rules answer, and this is the cursor of the journey after it
pub record IsMade (s : State) (ask : Option Asked) (found : Found) (why : Motion) (m : Made) : Type 0 where
  pub due : IsDue s ask found why (Ok m.item)
  pub says : IsEventOf found.id due.here.journey.plan due.here.journey.cursor m.item m.event
  pub cursor : m.cursor ≡ cursor_after due.here.journey.plan due.here.journey.cursor m.item

-- What was read for a move for which no reply is kept: the journey is where it was found. If the move is that of a refused step, the
-- journey runs, and its next want does not fit.
pub record IsRead (s : State) (ask : Option Asked) (found : Found) (why : Motion) : Type 0 where
  pub desk : IsDesk s
  pub new : kept_for s ask ≡ None
  pub here : IsFound (asker ask) s found
  pub unfit : IsUnfit found.id why s
