-- The state that the rows of the tables represent: a ledger with its kept replies.
-- Rows are taken as sets: the order of the rows in a table does not count. The items are in the table that
-- the version has for them; if that is not the table entry, nothing is said of the table entry.
use Rattle.std.specs.Prelude.{◌≡◌, ℕ, ◌==◌, ◌&&◌, Bool, false, List, [], ◌∷◌, find, bytes_eq, Option, option_map, IfSome, IsTrue}
use Rattle.std.specs.List.{AllByRecursion, list_any}
use Rattle.std.specs.List.Sorted.{IsPermutation}
use Rattle.sqlite_trees.specs.Tree.{IsAscending}
use Rattle.allotment.specs.Cells.{kind_number}
use Rattle.allotment.specs.declared.cells.Cell.{Cell}
use Rattle.commands.specs.Texts.{reply_line, is_accepted}
use Rattle.ledger.specs.History.{is_taken}
use Rattle.ledger.specs.Ledger.{Event, history, IsLegal}
use Rattle.ledger.specs.Answer.{Kept, KeptReply, State}
use Rattle.saga_core.specs.Views.{Places, places_of}
use Rattle.desk_sql.specs.declared.versions.Version.{Version}
use Rattle.desk_sql.specs.declared.versions.Version.TheVariants.{Two}
use Rattle.desk_sql.specs.FoundRows.{is_for}
use Rattle.desk_sql.specs.Rows.{Tables, StockRow, MarkRow, AnswerRow}
use Rattle.sql_model.specs.ExpectedRows.{meta_in, batches_called, journeys_called, steps_called, entries_called}

-- no two of these are the same
abbrev pub AreApart : {X : Type 0} → (X → X → Bool) → List X → Type 0
AreApart same xs = IsAscending (λ x y. same x y ≡ false) xs

-- Stock.

-- the row is that of this cell
abbrev pub is_stock_of : Cell → StockRow → Bool
is_stock_of x r =
    (kind_number x.kind == r.kind) && bytes_eq x.supplier r.supplier && bytes_eq x.product r.product
    && (x.night == r.night)

-- two rows are of one cell
abbrev pub is_same_stock : StockRow → StockRow → Bool
is_same_stock r s =
    (r.kind == s.kind) && bytes_eq r.supplier s.supplier
    && bytes_eq r.product s.product && (r.night == s.night)

-- the places in a row of stock
abbrev pub places_told : StockRow → Places
places_told r = record { allot = r.allot; free = r.free }

-- the places that the rows have for a cell
abbrev pub stock_at : List StockRow → Cell → Option Places
stock_at rows x = option_map places_told (find (is_stock_of x) rows)

-- the row is of some cell
abbrev pub IsOfCell : StockRow → Type 0
IsOfCell r = (x : Cell) × IsTrue (is_stock_of x r)

-- one row for each cell that has an allotment, with its places, and no other row
pub record StockStands (l : List Event) (rows : List StockRow) : Type 0 where
  pub each : (x : Cell) → stock_at rows x ≡ places_of l x
  pub once : AreApart is_same_stock rows
  pub known : AllByRecursion IsOfCell rows

-- Save-points.

-- the row is that of this journey and position
abbrev pub is_mark_at : ℕ → ℕ → MarkRow → Bool
is_mark_at journey pos m = (m.journey == journey) && (m.pos == pos)

-- two rows are of one journey and position
abbrev pub is_same_mark : MarkRow → MarkRow → Bool
is_same_mark m n = is_mark_at m.journey m.pos n

-- one row for each save-point that was taken at run time and still stands
pub record MarksStand (l : List Event) (rows : List MarkRow) : Type 0 where
  pub each : (journey pos : ℕ)
      → list_any (is_mark_at journey pos) rows ≡ is_taken (history l journey) pos
  pub once : AreApart is_same_mark rows

-- Kept replies.

-- two rows are of one agent and key
abbrev pub is_same_answer : AnswerRow → AnswerRow → Bool
is_same_answer a b = is_for a.agent a.mark b

-- a kept reply as it is stored: the text of its ask, and its line
pub record Written : Type 0 where
  pub ask : List ℕ
  pub reply : List ℕ

-- the stored form of a kept reply
abbrev pub as_written : KeptReply → Written
as_written k = record { ask = k.text; reply = reply_line k.reply }

-- the kept reply in a row of answer
abbrev pub answer_told : AnswerRow → Written
answer_told a = record { ask = a.ask; reply = a.reply }

-- the kept reply that the rows have under an agent and a key
abbrev pub answer_at : List AnswerRow → List ℕ → List ℕ → Option Written
answer_at rows agent key = option_map answer_told (find (is_for agent key) rows)

-- one row for each agent and key under which a reply is kept
pub record AnswersStand (kept : Kept) (rows : List AnswerRow) : Type 0 where
  pub each : (agent key : List ℕ)
      → answer_at rows agent key ≡ option_map as_written (kept agent key)
  pub once : AreApart is_same_answer rows

-- each kept reply accepts its request, so that it can be read from its line
abbrev pub IsKeepable : Kept → Type 0
IsKeepable kept = (agent key : List ℕ) → IfSome (kept agent key) (λ k. IsTrue (is_accepted k.reply))

-- The tables.

-- the rows of tables of this version are those expected of the ledger and the kept replies
pub record StandsIn (v : Version) (t : Tables) (s : State) : Type 0 where
  pub meta : t.meta ≡ meta_in v s.ledger ∷ []
  pub stock : StockStands s.ledger t.stock
  pub batch : IsPermutation (batches_called s.ledger) t.batch
  pub journey : IsPermutation (journeys_called s.ledger) t.journey
  pub step : IsPermutation (steps_called s.ledger) t.step
  pub answer : AnswersStand s.kept t.answer
  pub entries : IsPermutation (entries_called s.ledger) t.entries
  pub mark : MarksStand s.ledger t.mark

-- the same, for tables of the newest version
abbrev pub StandsFor : Tables → State → Type 0
StandsFor t s = StandsIn Two t s

-- the state of a desk: its ledger is legal, and its kept replies can be read from their lines
pub record IsDesk (s : State) : Type 0 where
  pub legal : IsLegal s.ledger
  pub keepable : IsKeepable s.kept
