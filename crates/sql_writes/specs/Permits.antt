-- What the writes of an event ask of the rows before it, so that no rule of the tables refuses one, and how many rowids the
-- store chooses for it.
use Rattle.std.specs.Prelude.{◌≡◌, ◌<◌, ◌≤◌, ◌+◌, ◌^◌, ◌==◌, ◌&&◌, ℕ, suc, true, false, List, length, Option, Some, None, IsTrue}
use Rattle.std.specs.List.{AllByRecursion}
use Rattle.allotment.specs.Want.{Wanted}
use Rattle.plan.specs.PlanModel.{step_count}
use Rattle.commands.specs.Asks.{Asked}
use Rattle.commands.specs.Names.{is_agent, is_key}
use Rattle.desk_sql.specs.Rows.{Tables, StockRow, JourneyRow, StepRow}
use Rattle.desk_sql.specs.Stock.{is_within}
use Rattle.desk_sql.specs.Changes.{AreItemsBelow, begun, is_option, kept}
use Rattle.desk_sql.specs.Writable.{HasJourney, IsShort, MayKeep, MayAddBatch, MayAddJourney, MayAddMark}
use Rattle.desk_sql.specs.declared.stock.NightRange.{NightRange}
use Rattle.sql_model.specs.ExpectedRows.{step_rows_of}
use Rattle.sql_model.specs.Reading.{IsRangeOf}
use Rattle.sql_writes.specs.declared.events.Numbers.{Numbers}
use Rattle.sql_writes.specs.declared.events.JourneyBegun.{JourneyBegun}
use Rattle.sql_writes.specs.declared.events.StepMade.{StepMade}
use Rattle.sql_writes.specs.declared.events.SaveMade.{SaveMade}
use Rattle.sql_writes.specs.declared.events.BatchLoaded.{BatchLoaded}
use Rattle.sql_writes.specs.declared.events.Event.{Event}
use Rattle.sql_writes.specs.declared.events.Event.TheVariants.{Begin, Transaction, Compensation, Turn, Save, Load}
use Rattle.sql_writes.specs.Loads.{MayLoad}
use Rattle.sql_writes.specs.Writing.{HaveFreeFor}

-- the texts of each cell fit
abbrev pub HaveShortCells : Tables → Type 0
HaveShortCells t = AllByRecursion (λ (s : StockRow). IsShort (length s.supplier + length s.product)) t.stock

-- the texts of each option fit
abbrev pub HaveShortOptions : Tables → Type 0
HaveShortOptions t = AllByRecursion (λ (s : StepRow). IsShort (length s.supplier + length s.product)) t.step

-- the agent of each journey fits
abbrev pub HaveShortAgents : Tables → Type 0
HaveShortAgents t = AllByRecursion (λ (j : JourneyRow). IsShort (length j.agent)) t.journey

-- each night of the want has at least its count of places that are held
abbrev pub HaveHeldFor : Wanted → Tables → Type 0
HaveHeldFor w t =
    (r : NightRange) → IsRangeOf r w
    → AllByRecursion (λ (s : StockRow). is_within r s ≡ true → (s.free + w.count ≤ s.allot) × (s.allot < 2 ^ 63)) t.stock

-- the journey is there, and no item has the event's number yet
pub record MayAdd (n : Numbers) (journey : ℕ) (t : Tables) : Type 0 where
  pub journey_is : HasJourney journey t
  pub below : AreItemsBelow n.num t

-- the same, and the texts of the journeys fit
pub record MayMoveOn (n : Numbers) (journey : ℕ) (t : Tables) : Type 0 where
  pub item : MayAdd n journey t
  pub short : HaveShortAgents t

-- a step may be done: each night of its want has its count of free places
pub record MayDo (n : Numbers) (m : StepMade) (t : Tables) : Type 0 where
  pub move : MayMoveOn n m.journey t
  pub free : HaveFreeFor m.want t
  pub cells : HaveShortCells t
  pub options : HaveShortOptions t

-- a step may be compensated: each night of its want has its count of places that are held
pub record MayUndo (n : Numbers) (m : StepMade) (t : Tables) : Type 0 where
  pub move : MayMoveOn n m.journey t
  pub held : HaveHeldFor m.want t
  pub cells : HaveShortCells t
  pub options : HaveShortOptions t

-- a save-point may be taken, where none is
pub record MaySave (n : Numbers) (m : SaveMade) (t : Tables) : Type 0 where
  pub item : MayAdd n m.journey t
  pub mark : MayAddMark m.journey m.position t

-- no option is of this journey
abbrev pub HasNoOptions : ℕ → Tables → Type 0
HasNoOptions id t = AllByRecursion (λ (s : StepRow). (s.journey == id) ≡ false) t.step

-- a journey may begin: its number and that of its event are new
pub record MayBegin (n : Numbers) (b : JourneyBegun) (t : Tables) : Type 0 where
  pub journey : MayAddJourney (begun n.journeys n.num b.agent.now (step_count b.plan.now) b.plan.now.tries) t
  pub options : HasNoOptions n.journeys t

-- a batch may be loaded: its name and the number of its event are new
pub record MayLoadBatch (n : Numbers) (b : BatchLoaded) (t : Tables) : Type 0 where
  pub batch : MayAddBatch (record { name = b.name.now; num = n.num; content = b.content.now }) t
  pub apart : MayLoad t
  pub cells : HaveShortCells t

-- the rows permit an event
abbrev pub Permits : Numbers → Event → Tables → Type 0
Permits n (Begin b) t = MayBegin n b t
Permits n (Transaction m) t = MayDo n m t
Permits n (Compensation m) t = MayUndo n m t
Permits n (Turn m) t = MayMoveOn n m.journey t
Permits n (Save m) t = MaySave n m t
Permits n (Load b) t = MayLoadBatch n b t

-- the rows permit an event, and its reply with this line if there is an ask, whose agent and key have their forms
abbrev pub PermitsEvent : Numbers → Event → Option Asked → List ℕ → Tables → Type 0
PermitsEvent n e None line t = Permits n e t
PermitsEvent n e (Some ask) line t =
    Permits n e t × (IsTrue (is_agent ask.agent) → IsTrue (is_key ask.key) → MayKeep (kept ask.agent ask.key ask.text line) t)

-- how many rowids the store chooses for the rows of an event: one for each option, cell, batch and save-point
abbrev pub rowids_of : Numbers → Event → ℕ
rowids_of n (Begin b) = length (step_rows_of n.journeys b.plan.now)
rowids_of n (Transaction m) = 0
rowids_of n (Compensation m) = 0
rowids_of n (Turn m) = 0
rowids_of n (Save m) = 1
rowids_of n (Load b) = suc (length b.cells.now)

-- and one for the reply that is kept with it
abbrev pub event_rowids : Numbers → Event → Option Asked → ℕ
event_rowids n e None = rowids_of n e
event_rowids n e (Some ask) = suc (rowids_of n e)

-- The parts of a begin and of a load.

-- the journey is there, and has no such option yet
pub record MayAddOption (id i c : ℕ) (t : Tables) : Type 0 where
  pub journey : HasJourney id t
  pub unplaced : AllByRecursion (λ (s : StepRow). is_option id i c s ≡ false) t.step

-- the journey is there, and has no option of the step yet
pub record MayAddOptions (id i : ℕ) (t : Tables) : Type 0 where
  pub journey : HasJourney id t
  pub unplaced : AllByRecursion (λ (s : StepRow). ((s.journey == id) && (s.place == i)) ≡ false) t.step

-- the journey is there, and has no option yet
pub record MayAddSteps (id : ℕ) (t : Tables) : Type 0 where
  pub journey : HasJourney id t
  pub options : HasNoOptions id t

-- each cell has at most one row, and its texts fit
pub record MayPutAll (t : Tables) : Type 0 where
  pub apart : MayLoad t
  pub cells : HaveShortCells t

-- The places of a want.

-- each night of the want has its count of free places, and the texts of the cells fit
pub record MayTakeWant (w : Wanted) (t : Tables) : Type 0 where
  pub free : HaveFreeFor w t
  pub cells : HaveShortCells t

-- each night of the want has its count of places that are held, and the texts of the cells fit
pub record MayGiveWant (w : Wanted) (t : Tables) : Type 0 where
  pub held : HaveHeldFor w t
  pub cells : HaveShortCells t
