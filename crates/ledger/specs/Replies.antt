-- The answers to a load, a begin and a move of a journey: one event and its reply, or a refusal, or the reply of a
-- known batch.
use Rattle.std.specs.Prelude.{ℕ, ◌+◌, ◌==◌, ◌&&◌, not, Bool, true, false, List, [], ◌∷◌, ◌++◌, map, length, if◌then◌else◌, find, position, Option, Some, None, option_map, option_and_then, option_to_list, unwrap_or, bytes_eq}
use Rattle.allotment.specs.Cells.{is_cell}
use Rattle.allotment.specs.declared.cells.Row.{Row}
use Rattle.plan.specs.PlanModel.{Planned}
use Rattle.commands.specs.Names.{house}
use Rattle.commands.specs.declared.items.Cause.TheVariants as cause
use Rattle.commands.specs.declared.items.Item.{Item}
use Rattle.commands.specs.declared.items.Item.TheVariants as item
use Rattle.commands.specs.declared.replies.Refusal.{Refusal}
use Rattle.commands.specs.declared.replies.Refusal.TheVariants.{NoJourney, Finished, BelowHeld, BatchDiffers}
use Rattle.commands.specs.declared.replies.Reply.{Reply}
use Rattle.commands.specs.declared.replies.Reply.TheVariants as reply
use Rattle.ledger.specs.History as h
use Rattle.ledger.specs.Ledger.{Event, Loaded, Began, Did, Journey, journeys, journey_at, history, is_not_below_held, may_do}

-- an answer: the event that it adds to the ledger, if any, and the reply
pub record Answer : Type 0 where
  pub event : Option Event
  pub reply : Reply

-- a refusal, which adds no event
abbrev pub refused : Refusal → Answer
refused why = record { event = None; reply = reply.Refused why }

-- Loads.

-- the same cells with the same places, in the same order
abbrev pub are_same_rows : List Row → List Row → Bool
are_same_rows [] [] = true
are_same_rows (r ∷ rs) (s ∷ ss) =
    is_cell r.cell s.cell && (r.places == s.places) && are_same_rows rs ss
are_same_rows _ _ = false

-- the batch is loaded
abbrev pub loaded : List ℕ → List Row → Reply
loaded name rows = reply.Loaded name (length rows)

-- to a batch whose name is known with these rows
abbrev pub answer_known : List ℕ → List Row → List Row → Answer
answer_known name rows known =
    if are_same_rows rows known then record { event = None; reply = loaded name rows }
    else refused BatchDiffers

-- to a batch with a new name, where the first row below held places has this index
abbrev pub answer_new : List ℕ → List Row → Option ℕ → Answer
answer_new name rows (Some i) = refused (BelowHeld (i + 1))
answer_new name rows None =
    record { event = Some (Loaded name rows); reply = loaded name rows }

-- to a batch, by the batches that have its name
abbrev pub answer_load : List Event → List ℕ → List Row → List (List Row) → Answer
answer_load l name rows (known ∷ _) = answer_known name rows known
answer_load l name rows [] =
    answer_new name rows (position (λ r. not (is_not_below_held l r)) rows)

-- Begins.

-- the journey gets the next number, and belongs to the agent who asks, or to the house
abbrev pub answer_begin : List Event → Option (List ℕ) → Planned → Answer
answer_begin l who plan = record {
  event = Some (Began (unwrap_or who house) plan);
  reply = reply.Begun (length (journeys l) + 1);
}

-- Moves of a journey.

-- an agent sees its own journeys, and the house sees all
abbrev pub sees : Option (List ℕ) → Journey → Bool
sees None a = true
sees (Some agent) a = bytes_eq agent a.agent

-- the journey of this number, if the caller sees it
abbrev pub seen_journey : List Event → Option (List ℕ) → ℕ → Option Journey
seen_journey l who j =
    option_and_then (λ (a : Journey). if sees who a then Some a else None) (journey_at l j)

-- the compensation of the last transaction that stands
abbrev pub compensation : List Item → List Item
compensation items =
    map (λ (t : ℕ × ℕ). item.Compensation t.0 t.1) (option_to_list (h.last_of (h.net items)))

-- what a step may be: the next transaction, a refused turn, or a compensation
abbrev pub step_choices : Planned → List Item → List Item
step_choices plan items =
    item.Transaction (h.position_of items + 1) (h.next_option plan items)
    ∷ item.Turn (h.refused_target plan items) cause.Refused
    ∷ compensation items

-- what an abort to p may be: a turn to p
abbrev pub abort_choices : ℕ → Planned → List Item → List Item
abort_choices p plan items = item.Turn p cause.Asked ∷ []

-- what a stop may be: a turn to the last save-point
abbrev pub stop_choices : Planned → List Item → List Item
stop_choices plan items = item.Turn (h.last_save plan items) cause.Stop ∷ []

-- what taking a save-point may be: a save-point where the journey is
abbrev pub save_choices : Planned → List Item → List Item
save_choices plan items = item.Save (h.position_of items) ∷ []

-- the journey makes this item, and the reply says where it is then
abbrev pub moved : Planned → List Item → ℕ → Item → Answer
moved plan items j next =
    let grown = items ++ next ∷ [] in
    record {
      event = Some (Did j next);
      reply = reply.Moved j next (h.position_of grown) (h.phase plan grown);
    }

-- the first of these items that is allowed, or this refusal
abbrev pub answer_choices : List Event → ℕ → Journey → List Item → Refusal → Answer
answer_choices l j a choices otherwise =
    unwrap_or
    (option_map (moved a.plan (history l j) j) (find (λ next. may_do l j next a) choices))
    (refused otherwise)

-- to a request about a journey, if the caller sees it: nothing moves a finished one
abbrev pub answer_move : List Event → ℕ → (Planned → List Item → List Item) → Refusal
    → Option Journey → Answer
answer_move l j choices otherwise None = refused NoJourney
answer_move l j choices otherwise (Some a) =
    if h.is_finished (h.phase a.plan (history l j)) then refused Finished
    else answer_choices l j a (choices a.plan (history l j)) otherwise
