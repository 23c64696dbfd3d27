-- The change of the rows by each statement that writes.
use Rattle.std.specs.Prelude.{◌≡◌, ℕ, ◌<◌, ◌^◌, ◌==◌, ◌&&◌, not, Bool, List, [], ◌∷◌, ◌++◌, map, filter}
use Rattle.std.specs.List.{AllByRecursion}
use Rattle.desk_sql.specs.Lists.{changed}
use Rattle.desk_sql.specs.Rows.{Tables, no_rows, MetaRow, BatchRow, CursorRow, JourneyRow, StepRow, EntryRow, MarkRow, AnswerRow}
use Rattle.desk_sql.specs.FoundRows.{is_numbered, item_of, mark_at_pos}
use Rattle.desk_sql.specs.declared.journeys.Cursor.{Cursor}
use Rattle.desk_sql.specs.declared.steps.StepOption.{StepOption}
use Rattle.desk_sql.specs.declared.journeys.ItemFound.{ItemFound}

-- the row of meta has these numbers
abbrev pub counts : MetaRow → Tables → Tables
counts m t = record t { meta = map (λ _. m) t.meta }

-- meta has no row yet
abbrev pub LacksMeta : Tables → Type 0
LacksMeta t = t.meta ≡ []

-- the numbers of a desk that has no event yet
abbrev pub at_first : ℕ → MetaRow
at_first version = record { version = version; events = 0; journeys = 0 }

-- one more row of meta
abbrev pub adds_meta : MetaRow → Tables → Tables
adds_meta m t = record t { meta = t.meta ++ m ∷ [] }

-- the tables of a desk that has no event yet
abbrev pub founded : Tables
founded = record no_rows { meta = at_first 2 ∷ [] }

-- a cursor at the start of a plan
abbrev pub at_start : CursorRow
at_start = record { pos = 0; phase = 0; target = 0; used = 0 }

-- the row of a new journey
abbrev pub begun : ℕ → ℕ → List ℕ → ℕ → ℕ → JourneyRow
begun id num agent steps tries =
    record { id = id; num = num; agent = agent; steps = steps; tries = tries; cursor = at_start }

-- each journey has a smaller number
abbrev pub AreJourneysBelow : ℕ → Tables → Type 0
AreJourneysBelow id t = AllByRecursion (λ (j : JourneyRow). j.id < id) t.journey

-- one more journey, appended
abbrev pub adds_journey : JourneyRow → Tables → Tables
adds_journey j t = record t { journey = t.journey ++ j ∷ [] }

-- the row of the option, which no transaction has taken yet
abbrev pub untaken : StepOption → StepRow
untaken o = record {
  journey = o.journey;
  place = o.place;
  opt = o.opt;
  save = o.save;
  taken = 0;
  kind = o.kind;
  supplier = o.supplier.now;
  product = o.product.now;
  night = o.night;
  nights = o.nights;
  places = o.places;
}

-- the numbers of the option fit the store's integers
abbrev pub IsSmallOption : StepOption → Type 0
IsSmallOption o = AllByRecursion (λ n. n < 2 ^ 63)
    (o.journey ∷ o.place ∷ o.opt ∷ o.save ∷ o.kind ∷ o.night ∷ o.nights ∷ o.places ∷ [])

-- one more option, appended
abbrev pub adds_step : StepRow → Tables → Tables
adds_step s t = record t { step = t.step ++ s ∷ [] }

-- one more kept reply, appended
abbrev pub adds_answer : AnswerRow → Tables → Tables
adds_answer a t = record t { answer = t.answer ++ a ∷ [] }

-- the row of a kept reply
abbrev pub kept : List ℕ → List ℕ → List ℕ → List ℕ → AnswerRow
kept agent mark ask reply = record { agent = agent; mark = mark; ask = ask; reply = reply }

-- the numbers of the cursor fit the store's integers
abbrev pub IsSmallCursor : Cursor → Type 0
IsSmallCursor c = AllByRecursion (λ n. n < 2 ^ 63) (c.pos ∷ c.phase ∷ c.target ∷ c.used ∷ [])

-- the journey, with this cursor
abbrev pub with_cursor : Cursor → JourneyRow → JourneyRow
with_cursor c j = record j {
  cursor = record { pos = c.pos; phase = c.phase; target = c.target; used = c.used };
}

-- the journey with the number moves to this cursor
abbrev pub moves_journey : ℕ → Cursor → Tables → Tables
moves_journey id c t = record t { journey = changed (is_numbered id) (with_cursor c) t.journey }

-- the row is that of this option of this step
abbrev pub is_option : ℕ → ℕ → ℕ → StepRow → Bool
is_option journey place opt s = (s.journey == journey) && ((s.place == place) && (s.opt == opt))

-- the option, with this mark
abbrev pub with_taken : ℕ → StepRow → StepRow
with_taken taken s = record s { taken = taken }

-- the option is marked as taken, or as not taken
abbrev pub marks_step : ℕ → ℕ → ℕ → ℕ → Tables → Tables
marks_step journey place opt taken t = record t {
  step = changed (is_option journey place opt) (with_taken taken) t.step;
}

-- the numbers of the item fit the store's integers
abbrev pub IsSmallItem : ItemFound → Type 0
IsSmallItem i = AllByRecursion (λ n. n < 2 ^ 63) (i.num ∷ i.item ∷ i.a ∷ i.b ∷ [])

-- each item has a smaller number
abbrev pub AreItemsBelow : ℕ → Tables → Type 0
AreItemsBelow num t = AllByRecursion (λ (e : EntryRow). e.num < num) t.entries

-- one more item of the journey, appended
abbrev pub adds_item : ℕ → ItemFound → Tables → Tables
adds_item journey i t = record t { entries = t.entries ++ item_of journey i ∷ [] }

-- one more batch, appended
abbrev pub adds_batch : BatchRow → Tables → Tables
adds_batch b t = record t { batch = t.batch ++ b ∷ [] }

-- one more save-point, appended
abbrev pub adds_mark : ℕ → ℕ → Tables → Tables
adds_mark journey at t = record t { mark = t.mark ++ mark_at_pos journey at ∷ [] }

-- the row is that of the save-point of this journey at this position
abbrev pub is_mark_at : ℕ → ℕ → MarkRow → Bool
is_mark_at journey at m = (m.journey == journey) && (m.pos == at)

-- the save-point is deleted
abbrev pub drops_mark : ℕ → ℕ → Tables → Tables
drops_mark journey at t = record t { mark = filter (λ m. not (is_mark_at journey at m)) t.mark }
