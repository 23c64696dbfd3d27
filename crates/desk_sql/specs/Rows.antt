-- The rows of the desk's tables as typed values, and when the trees of a database show them.
use Rattle.std.specs.Prelude.{◌≡◌, ℕ, pos, List, [], ◌∷◌}
use Rattle.sqlite.specs.declared.types.Value.{Value}
use Rattle.sqlite.specs.declared.types.Value.TheVariants.{Null, Int, Text, Blob}
use Rattle.sqlite.specs.Order.{Row}
use Rattle.sqlite.specs.Tree.{Trees}
use Rattle.desk_sql.specs.declared.versions.Version.{Version}
use Rattle.desk_sql.specs.declared.versions.Version.TheVariants.{One, Two}
use Rattle.desk_sql.specs.Lists.{IsTableOf, IsNumbered}

-- a number as the stored integer
abbrev pub whole : ℕ → Value
whole n = Int (pos n)

-- the version of the schema, the number of events, and the number of the last journey
pub record MetaRow : Type 0 where
  pub version : ℕ
  pub events : ℕ
  pub journeys : ℕ

-- the row of meta, which has rowid 1
abbrev pub meta_row : MetaRow → Row
meta_row m = whole 1 ∷ Null ∷ whole m.version ∷ whole m.events ∷ whole m.journeys ∷ []

-- a cell, how many of its places the supplier allotted, and how many of them are free
pub record StockRow : Type 0 where
  pub kind : ℕ
  pub supplier : List ℕ
  pub product : List ℕ
  pub night : ℕ
  pub allot : ℕ
  pub free : ℕ

-- the columns of a row of stock
abbrev pub stock_columns : StockRow → Row
stock_columns s =
    whole s.kind ∷ Text s.supplier ∷ Text s.product ∷ whole s.night ∷ whole s.allot ∷ whole s.free
    ∷ []

-- a loaded batch: its name, the number of its event, and its text
pub record BatchRow : Type 0 where
  pub name : List ℕ
  pub num : ℕ
  pub content : List ℕ

-- the columns of a row of batch
abbrev pub batch_columns : BatchRow → Row
batch_columns b = Text b.name ∷ whole b.num ∷ Blob b.content ∷ []

-- the cursor of a journey: its position and phase, the target of its turn, the tries that it used
pub record CursorRow : Type 0 where
  pub pos : ℕ
  pub phase : ℕ
  pub target : ℕ
  pub used : ℕ

-- a journey: its number and that of its event, its agent, the numbers of steps and tries in its plan,
-- and its cursor
pub record JourneyRow : Type 0 where
  pub id : ℕ
  pub num : ℕ
  pub agent : List ℕ
  pub steps : ℕ
  pub tries : ℕ
  pub cursor : CursorRow

-- the row of a journey, whose rowid is its number
abbrev pub journey_row : JourneyRow → Row
journey_row j =
    whole j.id ∷ Null ∷ whole j.num ∷ Text j.agent ∷ whole j.steps ∷ whole j.tries
    ∷ whole j.cursor.pos ∷ whole j.cursor.phase ∷ whole j.cursor.target ∷ whole j.cursor.used ∷ []

-- an option of a step: the numbers of the journey, the step and the option, the marks of a save-point
-- and of a taken option, and the want
pub record StepRow : Type 0 where
  pub journey : ℕ
  pub place : ℕ
  pub opt : ℕ
  pub save : ℕ
  pub taken : ℕ
  pub kind : ℕ
  pub supplier : List ℕ
  pub product : List ℕ
  pub night : ℕ
  pub nights : ℕ
  pub places : ℕ

-- the columns of a row of step
abbrev pub step_columns : StepRow → Row
step_columns s =
    whole s.journey ∷ whole s.place ∷ whole s.opt ∷ whole s.save ∷ whole s.taken ∷ whole s.kind
    ∷ Text s.supplier ∷ Text s.product ∷ whole s.night ∷ whole s.nights ∷ whole s.places ∷ []

-- an item of a journey, with the number of its event: its kind, and its two numbers
pub record EntryRow : Type 0 where
  pub num : ℕ
  pub journey : ℕ
  pub item : ℕ
  pub a : ℕ
  pub b : ℕ

-- the row of an item, whose rowid is the number of its event
abbrev pub entry_row : EntryRow → Row
entry_row e = whole e.num ∷ Null ∷ whole e.journey ∷ whole e.item ∷ whole e.a ∷ whole e.b ∷ []

-- a save-point that was taken at run time and still stands
pub record MarkRow : Type 0 where
  pub journey : ℕ
  pub pos : ℕ

-- the columns of a row of mark
abbrev pub mark_columns : MarkRow → Row
mark_columns m = whole m.journey ∷ whole m.pos ∷ []

-- the text of an ask under an agent's key, and the reply
pub record AnswerRow : Type 0 where
  pub agent : List ℕ
  pub mark : List ℕ
  pub ask : List ℕ
  pub reply : List ℕ

-- the columns of a row of answer
abbrev pub answer_columns : AnswerRow → Row
answer_columns a = Text a.agent ∷ Text a.mark ∷ Blob a.ask ∷ Text a.reply ∷ []

-- all rows of the desk; the items are in the table that the version has for them
pub record Tables : Type 0 where
  pub meta : List MetaRow
  pub stock : List StockRow
  pub batch : List BatchRow
  pub journey : List JourneyRow
  pub step : List StepRow
  pub answer : List AnswerRow
  pub entries : List EntryRow
  pub mark : List MarkRow

-- the tree with the items: that of entry2, in version 1 that of entry
abbrev pub items_tree : Version → ℕ
items_tree One = 10
items_tree Two = 13

-- the tree of mark is the table of these save-points; in version 1 no save-point was taken
abbrev pub ShowsMarks : Version → Trees → List MarkRow → Type 0
ShowsMarks One db marks = marks ≡ []
ShowsMarks Two db marks = IsTableOf mark_columns (db 14) marks

-- each tree of this version is the table of its list
pub record ShowsIn (v : Version) (db : Trees) (t : Tables) : Type 0 where
  pub meta : IsNumbered (λ _. 1) meta_row (db 0) t.meta
  pub stock : IsTableOf stock_columns (db 1) t.stock
  pub batch : IsTableOf batch_columns (db 3) t.batch
  pub journey : IsNumbered (λ (j : JourneyRow). j.id) journey_row (db 6) t.journey
  pub step : IsTableOf step_columns (db 8) t.step
  pub answer : IsTableOf answer_columns (db 11) t.answer
  pub entries : IsNumbered (λ (e : EntryRow). e.num) entry_row (db (items_tree v)) t.entries
  pub mark : ShowsMarks v db t.mark

-- the same, for the newest version; nothing is said of the table entry
abbrev pub Shows : Trees → Tables → Type 0
Shows db t = ShowsIn Two db t

-- tables without rows
abbrev pub no_rows : Tables
no_rows = record {
  meta = [];
  stock = [];
  batch = [];
  journey = [];
  step = [];
  answer = [];
  entries = [];
  mark = [];
}
