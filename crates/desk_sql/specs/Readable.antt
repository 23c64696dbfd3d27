-- Rows as the queries show them, and which texts of them are UTF-8. Such a row can be read, as long as there is memory.
use Rattle.std.specs.Prelude.{◌≡◌, ℕ, List, [], ◌∷◌, filter, IsUtf8, ⊤}
use Rattle.sqlite.specs.Order.{Row}
use Rattle.sqlite.specs.declared.types.Value.TheVariants.{Text, Blob}
use Rattle.sqlite_rules.specs.Lists.{Has}
use Rattle.desk_sql.specs.Rows.{whole, Tables, MetaRow, StockRow, BatchRow, JourneyRow, StepRow, EntryRow, MarkRow, AnswerRow}
use Rattle.desk_sql.specs.FoundRows.{is_for, is_numbered, is_unfinished_after, is_step_of, is_option_of}

-- the queries show the other values in this order
abbrev pub meta_shown : MetaRow → Row
meta_shown m = whole m.version ∷ whole m.events ∷ whole m.journeys ∷ []

abbrev pub night_shown : StockRow → Row
night_shown s = whole s.night ∷ whole s.allot ∷ whole s.free ∷ []

abbrev pub batch_shown : BatchRow → Row
batch_shown b = whole b.num ∷ Blob b.content ∷ []

abbrev pub step_shown : StepRow → Row
step_shown s =
    whole s.place ∷ whole s.opt ∷ whole s.save ∷ whole s.taken ∷ whole s.kind ∷ Text s.supplier
    ∷ Text s.product ∷ whole s.night ∷ whole s.nights ∷ whole s.places ∷ []

abbrev pub item_shown : EntryRow → Row
item_shown e = whole e.num ∷ whole e.item ∷ whole e.a ∷ whole e.b ∷ []

abbrev pub mark_shown : MarkRow → Row
mark_shown m = whole m.pos ∷ []

abbrev pub answer_shown : AnswerRow → Row
answer_shown a = Blob a.ask ∷ Text a.reply ∷ []

-- the texts of a value that a query shows are UTF-8
abbrev pub IsAgentText : JourneyRow → Type 0
IsAgentText j = IsUtf8 j.agent

abbrev pub AreWantTexts : StepRow → Type 0
AreWantTexts s = IsUtf8 s.supplier × IsUtf8 s.product

abbrev pub AreCellTexts : StockRow → Type 0
AreCellTexts s = IsUtf8 s.supplier × IsUtf8 s.product

abbrev pub IsReplyText : AnswerRow → Type 0
IsReplyText a = IsUtf8 a.reply

-- the row shows a value whose texts are UTF-8
abbrev pub ShowsOne : {X : Type 0} → (X → Row) → (X → Type 0) → Row → Type 0
ShowsOne {X} shows HasTexts row = (x : X) × (row ≡ shows x) × HasTexts x

-- each of these values is such a one
abbrev pub Each : {X : Type 0} → (X → Type 0) → List X → Type 0
Each {X} P values = (x : X) → Has values x → P x

-- What each read asks of the rows: meta has one row, and the texts that are shown are UTF-8.

abbrev pub HasMeta : Tables → Type 0
HasMeta t = (m : MetaRow) × (t.meta ≡ m ∷ [])

abbrev pub HasAgentText : ℕ → Tables → Type 0
HasAgentText id t = Each IsAgentText (filter (is_numbered id) t.journey)

abbrev pub HaveAgentTexts : ℕ → Tables → Type 0
HaveAgentTexts after t = Each IsAgentText (filter (is_unfinished_after after) t.journey)

abbrev pub HaveWantTexts : ℕ → Tables → Type 0
HaveWantTexts journey t = Each AreWantTexts (filter (is_step_of journey) t.step)

abbrev pub HaveOptionTexts : ℕ → ℕ → Tables → Type 0
HaveOptionTexts journey place t = Each AreWantTexts (filter (is_option_of journey place) t.step)

abbrev pub HasReplyText : List ℕ → List ℕ → Tables → Type 0
HasReplyText agent mark t = Each IsReplyText (filter (is_for agent mark) t.answer)

-- nothing
abbrev pub Any : Tables → Type 0
Any t = ⊤
