-- The rows that are expected of a ledger, table by table.
use Rattle.std.specs.Prelude.{ℕ, suc, ◌==◌, ◌&&◌, Bool, true, false, List, [], ◌∷◌, ◌++◌, map, length, filter_map, flat_map, Option, Some, None}
use Rattle.std.specs.List.{list_any}
use Rattle.allotment.specs.Want.{Wanted}
use Rattle.allotment.specs.Cells.{kind_number}
use Rattle.allotment.specs.Texts.{row_text, line_feed}
use Rattle.allotment.specs.declared.cells.Row.{Row}
use Rattle.plan.specs.PlanModel.{Planned, StepPlan, step_count}
use Rattle.commands.specs.declared.items.Cause.{Cause}
use Rattle.commands.specs.declared.items.Cause.TheVariants.{Stop, Refused, Asked}
use Rattle.commands.specs.declared.items.Cursor.{Cursor}
use Rattle.commands.specs.declared.items.Item.{Item}
use Rattle.commands.specs.declared.items.Item.TheVariants.{Transaction, Compensation, Turn, Save}
use Rattle.commands.specs.declared.items.Phase.{Phase}
use Rattle.commands.specs.declared.items.Phase.TheVariants.{Run, Back, Ended, Undone}
use Rattle.ledger.specs.History.{net}
use Rattle.ledger.specs.Ledger.{Event, Loaded, Began, Did, Journey, journeys, history}
use Rattle.saga_core.specs.Views.{cursor_of}
use Rattle.desk_sql.specs.declared.versions.Version.{Version}
use Rattle.desk_sql.specs.Versions.{number_of}
use Rattle.desk_sql.specs.Rows.{MetaRow, BatchRow, JourneyRow, CursorRow, StepRow, EntryRow}

-- the elements of a list, numbered from `first`
abbrev pub counted_from : {X : Type 0} → ℕ → List X → List (ℕ × X)
counted_from first [] = []
counted_from first (x ∷ xs) = (first, x) ∷ counted_from (suc first) xs

-- the row of meta: the version of the tables, how many events there are, and how many journeys
abbrev pub meta_in : Version → List Event → MetaRow
meta_in v l = record { version = number_of v; events = length l; journeys = length (journeys l) }

-- Batches.

-- the text of a batch's rows, each ended by a line feed
abbrev pub batch_text : List Row → List ℕ
batch_text rows = flat_map (λ row. row_text row ++ line_feed ∷ []) rows

-- the row of an event with this number, if it loaded a batch
abbrev pub batch_row_of : ℕ → Event → Option BatchRow
batch_row_of num (Loaded name rows) =
    Some (record { name = name; num = num; content = batch_text rows })
batch_row_of num _ = None

-- a row for each batch that was loaded
abbrev pub batches_called : List Event → List BatchRow
batches_called l = filter_map (λ (e : ℕ × Event). batch_row_of e.0 e.1) (counted_from 1 l)

-- Journeys.

-- a journey as it was begun, and the number of its begin
pub record Begun : Type 0 where
  pub num : ℕ
  pub journey : Journey

-- the journey that an event with this number began
abbrev pub begun_of : ℕ → Event → Option Begun
begun_of num (Began agent plan) =
    Some (record { num = num; journey = record { agent = agent; plan = plan } })
begun_of num _ = None

-- the journeys as they were begun, in order
abbrev pub begun : List Event → List Begun
begun l = filter_map (λ (e : ℕ × Event). begun_of e.0 e.1) (counted_from 1 l)

-- the number of a phase
abbrev pub phase_number : Phase → ℕ
phase_number Run = 0
phase_number (Back target) = 1
phase_number Ended = 2
phase_number Undone = 3

-- the target of a journey that goes back, else 0
abbrev pub target_of : Phase → ℕ
target_of (Back target) = target
target_of _ = 0

-- a cursor as it is stored
abbrev pub cursor_row : Cursor → CursorRow
cursor_row c =
    record { pos = c.pos; phase = phase_number c.phase; target = target_of c.phase; used = c.used }

-- the row of a journey that has this number and made these items
abbrev pub journey_row_of : List Item → ℕ → Begun → JourneyRow
journey_row_of items id b = record {
  id = id;
  num = b.num;
  agent = b.journey.agent;
  steps = step_count b.journey.plan;
  tries = b.journey.plan.tries;
  cursor = cursor_row (cursor_of b.journey.plan items);
}

-- a row for each journey, in order of number
abbrev pub journeys_called : List Event → List JourneyRow
journeys_called l =
    map (λ (b : ℕ × Begun). journey_row_of (history l b.0) b.0 b.1) (counted_from 1 (begun l))

-- Steps.

-- 1 for true, and 0 for false
abbrev pub flag : Bool → ℕ
flag true = 1
flag false = 0

-- a standing transaction of the step was done with this option
abbrev pub is_standing : List Item → ℕ → ℕ → Bool
is_standing items step option =
    list_any (λ (t : ℕ × ℕ). (t.0 == step) && (t.1 == option)) (net items)

-- the row of one option of a step
abbrev pub option_row : ℕ → ℕ → Bool → ℕ → Bool → Wanted → StepRow
option_row id step is_marked option taken want = record {
  journey = id;
  place = step;
  opt = option;
  save = flag is_marked;
  taken = flag taken;
  kind = kind_number want.kind;
  supplier = want.supplier;
  product = want.product;
  night = want.first;
  nights = want.nights;
  places = want.count;
}

-- a row for each option of a step; `taken` says which are taken
abbrev pub option_rows : (ℕ → ℕ → Bool) → ℕ → ℕ → StepPlan → List StepRow
option_rows taken id step s =
    map (λ (w : ℕ × Wanted). option_row id step s.is_marked w.0 (taken step w.0) w.1)
    (counted_from 1 s.options)

-- a row for each option of each step of a plan; `taken` says which are taken
abbrev pub step_rows : (ℕ → ℕ → Bool) → ℕ → Planned → List StepRow
step_rows taken id plan =
    flat_map (λ (s : ℕ × StepPlan). option_rows taken id s.0 s.1) (counted_from 1 plan.steps)

-- no option is taken
abbrev pub none_taken : ℕ → ℕ → Bool
none_taken step option = false

-- the rows of a plan that was just begun
abbrev pub step_rows_of : ℕ → Planned → List StepRow
step_rows_of id plan = step_rows none_taken id plan

-- the rows of the plans of all journeys, in order of number
abbrev pub steps_called : List Event → List StepRow
steps_called l =
    flat_map (λ (a : ℕ × Journey). step_rows (is_standing (history l a.0)) a.0 a.1.plan)
    (counted_from 1 (journeys l))

-- Items.

-- the number of the cause of a turn
abbrev pub cause_number : Cause → ℕ
cause_number Stop = 0
cause_number Refused = 1
cause_number Asked = 2

-- the row of an item of a journey, with the number of its event
abbrev pub entry_row_of : ℕ → ℕ → Item → EntryRow
entry_row_of num journey (Transaction step option) =
    record { num = num; journey = journey; item = 0; a = step; b = option }
entry_row_of num journey (Compensation step option) =
    record { num = num; journey = journey; item = 1; a = step; b = option }
entry_row_of num journey (Turn target cause) =
    record { num = num; journey = journey; item = 2; a = target; b = cause_number cause }
entry_row_of num journey (Save position) =
    record { num = num; journey = journey; item = 3; a = position; b = 0 }

-- the row of an event with this number, if it is an item
abbrev pub entry_row_if : ℕ → Event → Option EntryRow
entry_row_if num (Did journey item) = Some (entry_row_of num journey item)
entry_row_if num _ = None

-- a row for each item, in order of event
abbrev pub entries_called : List Event → List EntryRow
entries_called l = filter_map (λ (e : ℕ × Event). entry_row_if e.0 e.1) (counted_from 1 l)
