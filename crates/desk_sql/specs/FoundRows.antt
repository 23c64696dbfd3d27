-- The rows that each read finds.
use Rattle.std.specs.Prelude.{◌≡◌, ◌<◌, ◌≤◌, ◌==◌, ◌⊎◌, ◌&&◌, nat_lt, nat_le, Bool, ℕ, List, [], ◌∷◌, map, filter, bytes_eq, string_bytes, Option, Some, None, option_map, ⊤}
use Rattle.sqlite.specs.Order.{Row, column}
use Rattle.desk_sql.specs.Lists.{IsOneOf, IsListed, IsLeastOf}
use Rattle.desk_sql.specs.Rows.{whole, Tables, MetaRow, BatchRow, AnswerRow, JourneyRow, StepRow, EntryRow, MarkRow}
use Rattle.sqlite.specs.declared.types.Value.TheVariants.{Text, Blob}
use Rattle.desk_sql.specs.declared.meta.Meta.{Meta}
use Rattle.desk_sql.specs.declared.answers.KeptAnswer.{KeptAnswer}
use Rattle.desk_sql.specs.declared.journeys.Cursor.{Cursor}
use Rattle.desk_sql.specs.declared.journeys.JourneyFound.{JourneyFound}
use Rattle.desk_sql.specs.declared.steps.StepFound.{StepFound}
use Rattle.desk_sql.specs.declared.batches.BatchFound.{BatchFound}
use Rattle.desk_sql.specs.declared.journeys.ItemFound.{ItemFound}

-- the row of meta with these numbers
abbrev pub meta_of : Meta → MetaRow
meta_of m = record { version = m.version; events = m.events; journeys = m.journeys }

-- meta has one row, with these numbers
abbrev pub IsMeta : Tables → Meta → Type 0
IsMeta t m = t.meta ≡ meta_of m ∷ []

-- a query shows the numbers of meta in this order
abbrev pub shows_meta : Meta → Row
shows_meta m = whole m.version ∷ whole m.events ∷ whole m.journeys ∷ []

-- what holds of a row, if there is one; or there is one, of which it holds
abbrev pub IfRow : (Row → Type 0) → Option Row → Type 0
IfRow Holds (Some row) = Holds row
IfRow Holds None = ⊤

abbrev pub HasRow : (Row → Type 0) → Option Row → Type 0
HasRow Holds (Some row) = Holds row
HasRow Holds None = ⊥

-- what was read of a row, if there is one, is what the row shows
abbrev pub ReadsOne : {V C : Type 0} → (V → C) → (Row → C) → Option Row → Option V → Type 0
ReadsOne shows read (Some row) (Some v) = shows v ≡ read row
ReadsOne shows read None None = ⊤
ReadsOne shows read row v = ⊥

-- the first columns of a row that was read
abbrev pub two_of : Row → Row
two_of r = column r 0 ∷ column r 1 ∷ []

abbrev pub three_of : Row → Row
three_of r = column r 0 ∷ column r 1 ∷ column r 2 ∷ []

abbrev pub six_of : Row → Row
six_of r = column r 0 ∷ column r 1 ∷ column r 2 ∷ column r 3 ∷ column r 4 ∷ column r 5 ∷ []

-- the reply is kept under this agent's key
abbrev pub is_for : List ℕ → List ℕ → AnswerRow → Bool
is_for agent mark a = bytes_eq a.agent agent && bytes_eq a.mark mark

-- the row of a kept reply
abbrev pub answer_of : List ℕ → List ℕ → KeptAnswer → AnswerRow
answer_of agent mark k =
    record { agent = agent; mark = mark; ask = k.ask.items; reply = string_bytes k.reply }

-- what is kept under the agent's key, or nothing if nothing is kept
abbrev pub FindsAnswer : List ℕ → List ℕ → Tables → Option KeptAnswer → Type 0
FindsAnswer agent mark t found =
    IsOneOf (filter (is_for agent mark) t.answer) (option_map (answer_of agent mark) found)

-- a query shows a kept reply in this order
abbrev pub shows_answer : KeptAnswer → Row
shows_answer k = Blob k.ask.items ∷ Text (string_bytes k.reply) ∷ []

-- the row of a journey that was found
abbrev pub journey_of : JourneyFound → JourneyRow
journey_of j = record {
  id = j.id;
  num = j.num;
  agent = string_bytes j.agent;
  steps = j.steps;
  tries = j.tries;
  cursor = record {
    pos = j.cursor.pos;
    phase = j.cursor.phase;
    target = j.cursor.target;
    used = j.cursor.used;
  };
}

-- the journey has this number
abbrev pub is_numbered : ℕ → JourneyRow → Bool
is_numbered id j = j.id == id

-- the journey with the number, or none if no journey has it
abbrev pub FindsJourney : ℕ → Tables → Option JourneyFound → Type 0
FindsJourney id t found = IsOneOf (filter (is_numbered id) t.journey) (option_map journey_of found)

-- the journey has a number above this one, and is running or going back
abbrev pub is_unfinished_after : ℕ → JourneyRow → Bool
is_unfinished_after after j = nat_lt after j.id && nat_le j.cursor.phase 1

-- the unfinished journey with the least number above this one, or none if all above it are finished
abbrev pub FindsUnfinished : ℕ → Tables → Option JourneyFound → Type 0
FindsUnfinished after t found =
    IsLeastOf (λ (j : JourneyRow). j.id) (filter (is_unfinished_after after) t.journey)
    (option_map journey_of found)

-- the journey has a number above this one, and is this agent's
abbrev pub is_owned_after : List ℕ → ℕ → JourneyRow → Bool
is_owned_after agent after j = nat_lt after j.id && bytes_eq j.agent agent

-- a query shows the cursor of a journey, and the whole journey, in this order
abbrev pub shows_cursor : Cursor → Row
shows_cursor c = whole c.pos ∷ whole c.phase ∷ whole c.target ∷ whole c.used ∷ []

abbrev pub cursor_of : Row → Row
cursor_of r = column r 5 ∷ column r 6 ∷ column r 7 ∷ column r 8 ∷ []

abbrev pub shows_journey : JourneyFound → Row
shows_journey j =
    whole j.id ∷ whole j.num ∷ Text (string_bytes j.agent) ∷ whole j.steps ∷ whole j.tries
    ∷ shows_cursor j.cursor

abbrev pub nine_of : Row → Row
nine_of r = column r 0 ∷ column r 1 ∷ column r 2 ∷ column r 3 ∷ column r 4 ∷ cursor_of r

-- the row of an option that was found
abbrev pub step_of : ℕ → StepFound → StepRow
step_of journey s = record {
  journey = journey;
  place = s.place;
  opt = s.opt;
  save = s.save;
  taken = s.taken;
  kind = s.kind;
  supplier = string_bytes s.supplier;
  product = string_bytes s.product;
  night = s.night;
  nights = s.nights;
  places = s.places;
}

-- the option belongs to this journey
abbrev pub is_step_of : ℕ → StepRow → Bool
is_step_of journey s = s.journey == journey

-- an earlier step, or the same one and no later option
abbrev pub IsByPlace : StepRow → StepRow → Type 0
IsByPlace a b = (a.place < b.place) ⊎ ((a.place ≡ b.place) × (a.opt ≤ b.opt))

-- the options of the journey, in order of step and option
abbrev pub FindsSteps : ℕ → Tables → List StepFound → Type 0
FindsSteps journey t found =
    IsListed IsByPlace (filter (is_step_of journey) t.step) (map (step_of journey) found)

-- the option belongs to this step of this journey
abbrev pub is_option_of : ℕ → ℕ → StepRow → Bool
is_option_of journey place s = is_step_of journey s && (s.place == place)

-- the options of the step, in order of their numbers
abbrev pub FindsOptions : ℕ → ℕ → Tables → List StepFound → Type 0
FindsOptions journey place t found =
    IsListed IsByPlace (filter (is_option_of journey place) t.step) (map (step_of journey) found)

-- a query shows an option in this order
abbrev pub shows_step : StepFound → Row
shows_step s =
    whole s.place ∷ whole s.opt ∷ whole s.save ∷ whole s.taken ∷ whole s.kind
    ∷ Text (string_bytes s.supplier) ∷ Text (string_bytes s.product) ∷ whole s.night ∷ whole s.nights ∷ whole s.places ∷ []

abbrev pub ten_of : Row → Row
ten_of r =
    column r 0 ∷ column r 1 ∷ column r 2 ∷ column r 3 ∷ column r 4
    ∷ column r 5 ∷ column r 6 ∷ column r 7 ∷ column r 8 ∷ column r 9 ∷ []

-- the row of an item that was found
abbrev pub item_of : ℕ → ItemFound → EntryRow
item_of journey i = record { num = i.num; journey = journey; item = i.item; a = i.a; b = i.b }

-- the item belongs to this journey
abbrev pub is_item_of : ℕ → EntryRow → Bool
is_item_of journey e = e.journey == journey

-- the item belongs to this journey, and the number of its event is above this one
abbrev pub is_item_after : ℕ → ℕ → EntryRow → Bool
is_item_after journey after e = is_item_of journey e && nat_lt after e.num

-- the items of the journey above a number, oldest first
abbrev pub FindsItems : ℕ → ℕ → Tables → List ItemFound → Type 0
FindsItems journey after t found =
    map (item_of journey) found ≡ filter (is_item_after journey after) t.entries

-- the first item of the journey above a number, or none if there is none
abbrev pub FindsNextItem : ℕ → ℕ → Tables → Option ItemFound → Type 0
FindsNextItem journey after t found =
    IsLeastOf (λ (e : EntryRow). e.num) (filter (is_item_after journey after) t.entries)
    (option_map (item_of journey) found)

-- a query shows an item in this order
abbrev pub shows_item : ItemFound → Row
shows_item i = whole i.num ∷ whole i.item ∷ whole i.a ∷ whole i.b ∷ []

abbrev pub four_of : Row → Row
four_of r = column r 0 ∷ column r 1 ∷ column r 2 ∷ column r 3 ∷ []

-- the row of a save-point at a position
abbrev pub mark_at_pos : ℕ → ℕ → MarkRow
mark_at_pos journey at = record { journey = journey; pos = at }

-- the save-point belongs to this journey
abbrev pub is_mark_of : ℕ → MarkRow → Bool
is_mark_of journey m = m.journey == journey

-- a lower position, or the same
abbrev pub IsByPosition : MarkRow → MarkRow → Type 0
IsByPosition a b = a.pos ≤ b.pos

-- the positions of the save-points of the journey, the lowest first
abbrev pub FindsMarks : ℕ → Tables → List ℕ → Type 0
FindsMarks journey t found =
    IsListed IsByPosition (filter (is_mark_of journey) t.mark) (map (mark_at_pos journey) found)

-- the row of a batch that was found
abbrev pub batch_of : List ℕ → BatchFound → BatchRow
batch_of name b = record { name = name; num = b.num; content = b.content.items }

-- the batch has this name
abbrev pub is_named : List ℕ → BatchRow → Bool
is_named name b = bytes_eq b.name name

-- the batch with the name, or none if no batch has it
abbrev pub FindsBatch : List ℕ → Tables → Option BatchFound → Type 0
FindsBatch name t found =
    IsOneOf (filter (is_named name) t.batch) (option_map (batch_of name) found)

-- a query shows a batch in this order
abbrev pub shows_batch : BatchFound → Row
shows_batch b = whole b.num ∷ Blob b.content.items ∷ []
