-- What a read of a connection returns of the desk that it keeps.
use Rattle.std.specs.Prelude.{◌≡◌, ℕ, false, List, map, Option, None, Some, option_map, Result, IfOk, filter, filter_map}
use Rattle.allotment.specs.declared.places.Held.{Held as HeldPlaces}
use Rattle.saga_core.specs.Views.{night_said, brief_of, first_unfinished, is_unfinished_above, record_of, marks_of, TracesBrief, TracesItems}
use Rattle.desk_sql.specs.declared.stock.NightFound.{NightFound}
use Rattle.sqlite.specs.Store.{Ghosts}
use Rattle.sqlite.specs.Held.{Held, state}
use Rattle.sqlite.specs.State.{HasCleanDisk}
use Rattle.commands.specs.declared.replies.Fault.{Fault}
use Rattle.commands.specs.declared.items.Item.{Item}
use Rattle.commands.specs.declared.items.Cursor.{Cursor}
use Rattle.desk_sql.specs.Rows.{CursorRow}
use Rattle.desk_sql.specs.declared.journeys.Cursor.{Cursor as CursorFound}
use Rattle.ledger.specs.Answer.{State}
use Rattle.ledger.specs.Ledger.{Journey, journey_at, history, numbers}
use Rattle.saga_core.specs.declared.records.Brief.{Brief}
use Rattle.saga_core.specs.declared.records.Record.{Record}
use Rattle.saga_core.specs.declared.records.Trace.{Trace}
use Rattle.plan.specs.PlanModel.{Planned, step_count}
use Rattle.plan.specs.Marks.{is_taken_in, AreInRange}
use Rattle.std.specs.FinSet as set
use Rattle.std.specs.Ordering.{nat_cmp}
use Rattle.desk_sql.specs.FoundRows.{journey_of, item_of}
use Rattle.desk_sql.specs.declared.journeys.JourneyFound.{JourneyFound}
use Rattle.desk_sql.specs.declared.journeys.ItemFound.{ItemFound}
use Rattle.sql_model.specs.Standing.{IsDesk}
use Rattle.sql_reads.specs.declared.reads.Stand.{Stand}
use Rattle.sql_model.specs.Reading.{cursor_in, item_in, night_seen}
use Rattle.desk_sql.specs.declared.versions.Version.{Version}
use Rattle.desk_sql.specs.declared.versions.Version.TheVariants.{One, Two}
use Rattle.sql_model.specs.Keeping.{KeepsIn}

module _ {S : Type 0} (g : Ghosts S) (old new : Held S) where
  -- while the store returns what was written, the result is true of each desk that the connection kept
  -- in tables of this version
  abbrev pub ShowsKeptIn : Version → {V : Type 0} → Result V Fault → (State → V → Type 0) → Type 0
  ShowsKeptIn v result IsShown =
      HasCleanDisk (state g new) → (s : State) → IsDesk s → KeepsIn v (state g old) s
      → IfOk result (IsShown s)

  -- the same, in tables of the newest version
  abbrev pub ShowsKept : {V : Type 0} → Result V Fault → (State → V → Type 0) → Type 0
  ShowsKept result IsShown = ShowsKeptIn Two result IsShown

-- a cursor that was found, as a row
abbrev pub row_of : CursorFound → CursorRow
row_of c = record { pos = c.pos; phase = c.phase; target = c.target; used = c.used }

-- the row is that of this cursor
abbrev pub TellsCursor : CursorFound → Cursor → Type 0
TellsCursor found c = cursor_in (row_of found) ≡ Some c

-- the row is that of this brief
pub record TellsBrief (r : JourneyFound) (b : Brief) : Type 0 where
  pub id : b.id ≡ r.id
  pub agent : b.agent ≡ (journey_of r).agent
  pub cursor : TellsCursor r.cursor b.cursor

-- the row is that of this journey's agent, steps, tries and cursor
pub record TellsStand (r : JourneyFound) (b : Stand) : Type 0 where
  pub agent : b.agent ≡ (journey_of r).agent
  pub steps : b.steps ≡ r.steps
  pub tries : b.tries ≡ r.tries
  pub cursor : TellsCursor r.cursor b.cursor

-- the rows are those of these items
abbrev pub TellItems : List ItemFound → List Item → Type 0
TellItems found items = map (λ (i : ItemFound). item_in (item_of 0 i)) found ≡ map Some items

-- the rows are those of these nights, with their places
abbrev pub TellNights : List NightFound → List (ℕ × HeldPlaces) → Type 0
TellNights found nights = map night_said nights ≡ map night_seen found

-- this is the plan of the journey with this number, if the tries are those of the journey
abbrev pub IsPlanOf : ℕ → ℕ → State → Planned → Type 0
IsPlanOf id tries s plan =
    (a : Journey) → journey_at s.ledger id ≡ Some a → tries ≡ a.plan.tries → plan ≡ a.plan

-- there is a journey with this number, and these are its tries
abbrev pub HasTries : ℕ → ℕ → State → Type 0
HasTries id tries s = (a : Journey) × (journey_at s.ledger id ≡ Some a) × (tries ≡ a.plan.tries)

-- the brief of the first unfinished journey above this number
abbrev pub IsFirstAbove : ℕ → State → Option Brief → Type 0
IsFirstAbove after s found = found ≡ first_unfinished s.ledger after

-- the briefs of the unfinished journeys above this number, in order of number
abbrev pub AreUnfinishedAbove : ℕ → State → List Brief → Type 0
AreUnfinishedAbove after s briefs =
    briefs ≡ filter (is_unfinished_above after) (filter_map (brief_of s.ledger) (numbers s.ledger))

-- no journey has this number
abbrev pub HasNone : {V : Type 0} → ℕ → State → V → Type 0
HasNone id s _ = journey_at s.ledger id ≡ None

-- the journey of this number, if there is one
abbrev pub IsRecordAt : ℕ → State → Option Record → Type 0
IsRecordAt id s found = found ≡ record_of s.ledger id

-- the agent, the number of steps, the tries and the cursor of a record
abbrev pub stand_of : Record → Stand
stand_of r = record { agent = r.agent; steps = step_count r.plan; tries = r.plan.tries; cursor = r.cursor }

-- the agent, the number of steps, the tries and the cursor of the journey of this number, if there is one
abbrev pub IsStandAt : ℕ → State → Option Stand → Type 0
IsStandAt id s found = found ≡ option_map stand_of (record_of s.ledger id)

-- these are the agent, the number of steps, the tries and the cursor of the journey of this number
abbrev pub HasStand : ℕ → Stand → State → Type 0
HasStand id stand s = IsStandAt id s (Some stand)

-- if the journey of this number has them, this is its record
abbrev pub IsRecordOf : ℕ → Stand → State → Record → Type 0
IsRecordOf id stand s r = HasStand id stand s → IsRecordAt id s (Some r)

-- no save-point was taken
pub record IsNone (marks : set.FinSet nat_cmp) : Type 0 where
  pub none : (p : ℕ) → is_taken_in marks p ≡ false
  pub low : AreInRange marks

-- the save-points that the journey of this number took and that stand
abbrev pub AreMarksAt : ℕ → State → set.FinSet nat_cmp → Type 0
AreMarksAt id s marks = marks ≡ marks_of (history s.ledger id)

-- the save-points of the journey of this number, in tables of this version; those of version 1 have none
abbrev pub AreTakenIn : Version → ℕ → State → set.FinSet nat_cmp → Type 0
AreTakenIn One id = λ s marks. IsNone marks
AreTakenIn Two id = AreMarksAt id

-- the journey of this number with its items, if there is one
pub record IsTraceAt (id : ℕ) (s : State) (found : Option Trace) : Type 0 where
  pub brief : TracesBrief id s found
  pub items : TracesItems id s found
