-- What each write asks of the rows, so that no rule of the tables refuses it: keys that are new, a parent for each reference,
-- numbers in range, and texts that a row can hold. A row may have a billion bytes.
use Rattle.std.specs.Prelude.{◌≡◌, ◌≤◌, ◌<◌, ◌+◌, ◌^◌, ◌==◌, ◌+ℤ◌, ◌<ℤ◌, ℕ, pos, List, length, true, false, Result, OnOk}
use Rattle.std.specs.List.{AllByRecursion}
use Rattle.sqlite.specs.Order.{Row}
use Rattle.sqlite.specs.Store.{Ghosts}
use Rattle.sqlite.specs.Held.{Held, state}
use Rattle.sqlite.specs.State.{HasCleanDisk}
use Rattle.sqlite.specs.declared.error.Error.{Error}
use Rattle.desk_sql.specs.Calls.{MayRun}
use Rattle.sqlite_trees.specs.Tree.{Trees, rowid}
use Rattle.sqlite_rules.specs.Edit.{id_in}
use Rattle.sqlite_rules.specs.Lists.{Has}
use Rattle.desk_sql.specs.Rows.{Tables, StockRow, BatchRow, JourneyRow, StepRow, AnswerRow}
use Rattle.desk_sql.specs.FoundRows.{is_for, is_named, is_numbered}
use Rattle.desk_sql.specs.Stock.{is_within, HaveFree}
use Rattle.desk_sql.specs.declared.journeys.Cursor.{Cursor}
use Rattle.desk_sql.specs.declared.stock.NightRange.{NightRange}
use Rattle.desk_sql.specs.Changes.{AreJourneysBelow, AreItemsBelow, is_option, is_mark_at}
use Rattle.desk_sql.specs.declared.journeys.ItemFound.{ItemFound}

-- each rowid is positive, and so many larger ones are left
abbrev pub AreLow : ℕ → List Row → Type 0
AreLow n rows = AllByRecursion (λ (r : Row). (pos 0 <ℤ id_in (rowid r)) × ((id_in (rowid r) +ℤ pos n) <ℤ pos (2 ^ 63))) rows

-- each table whose rowids the store chooses can take so many more rows
pub record HasRowids (n : ℕ) (db : Trees) : Type 0 where
  pub few : n < 2 ^ 63
  pub stock : AreLow n (db 1)
  pub batch : AreLow n (db 3)
  pub step : AreLow n (db 8)
  pub answer : AreLow n (db 11)
  pub mark : AreLow n (db 14)

-- texts of so many bytes
abbrev pub IsShort : ℕ → Type 0
IsShort n = n ≤ 10 ^ 8

-- a journey has this number
abbrev pub HasJourney : ℕ → Tables → Type 0
HasJourney id t = (j : JourneyRow) × Has t.journey j × (j.id ≡ id)

-- no reply is kept under the agent's key
pub record MayKeep (a : AnswerRow) (t : Tables) : Type 0 where
  pub unkept : AllByRecursion (λ k. is_for a.agent a.mark k ≡ false) t.answer
  pub short : IsShort (length a.agent + (length a.mark + (length a.ask + length a.reply)))

-- no batch has the name, nor the event's number
pub record MayAddBatch (b : BatchRow) (t : Tables) : Type 0 where
  pub unnamed : AllByRecursion (λ x. is_named b.name x ≡ false) t.batch
  pub unnumbered : AllByRecursion (λ (x : BatchRow). (x.num == b.num) ≡ false) t.batch
  pub short : IsShort (length b.name + length b.content)

-- each journey has a smaller number, and none has the event's number
pub record MayAddJourney (j : JourneyRow) (t : Tables) : Type 0 where
  pub below : AreJourneysBelow j.id t
  pub unnumbered : AllByRecursion (λ (k : JourneyRow). (k.num == j.num) ≡ false) t.journey
  pub short : IsShort (length j.agent)

-- the journey has no such option yet
pub record MayAddStep (s : StepRow) (t : Tables) : Type 0 where
  pub journey : HasJourney s.journey t
  pub unplaced : AllByRecursion (λ x. is_option s.journey s.place s.opt x ≡ false) t.step
  pub save : s.save ≤ 1
  pub short : IsShort (length s.supplier + length s.product)

-- each item has a smaller number
pub record MayAddItem (journey : ℕ) (i : ItemFound) (t : Tables) : Type 0 where
  pub journey_is : HasJourney journey t
  pub below : AreItemsBelow i.num t
  pub kind : i.item ≤ 3

-- the journey has no such save-point yet
pub record MayAddMark (journey at : ℕ) (t : Tables) : Type 0 where
  pub journey_is : HasJourney journey t
  pub unmarked : AllByRecursion (λ m. is_mark_at journey at m ≡ false) t.mark

-- the cursor has a phase, and the agent's text fits
pub record MayMove (id : ℕ) (c : Cursor) (t : Tables) : Type 0 where
  pub phase : c.phase ≤ 3
  pub short : AllByRecursion (λ (j : JourneyRow). is_numbered id j ≡ true → IsShort (length j.agent)) t.journey

-- the mark is 0 or 1, and the texts of the option fit
pub record MayMarkStep (journey place opt taken : ℕ) (t : Tables) : Type 0 where
  pub mark_is : taken ≤ 1
  pub short : AllByRecursion
      (λ (s : StepRow). is_option journey place opt s ≡ true → IsShort (length s.supplier + length s.product)) t.step

-- the texts of each night of the range fit
abbrev pub AreShortNights : NightRange → Tables → Type 0
AreShortNights r t = AllByRecursion
    (λ (s : StockRow). is_within r s ≡ true → IsShort (length s.supplier + length s.product)) t.stock

-- each night of the range has so many free places
pub record MayTakeNights (r : NightRange) (count : ℕ) (t : Tables) : Type 0 where
  pub free : HaveFree r count t
  pub short : AreShortNights r t

-- so many places of each night of the range are held
pub record MayGiveNights (r : NightRange) (count : ℕ) (t : Tables) : Type 0 where
  pub held : AllByRecursion
      (λ (s : StockRow). is_within r s ≡ true → (s.free + count ≤ s.allot) × (s.allot < 2 ^ 63)) t.stock
  pub short : AreShortNights r t

-- the kind is in range, no more places are free than allotted, and the texts fit
pub record MayPut (s : StockRow) (t : Tables) : Type 0 where
  pub kind : s.kind ≤ 3
  pub free : s.free ≤ s.allot
  pub short : IsShort (length s.supplier + length s.product)
  pub others : AllByRecursion (λ (x : StockRow). IsShort (length x.supplier + length x.product)) t.stock

module _ {S : Type 0} (g : Ghosts S) (old new : Held S) where
  -- in a transaction a success leaves the rowids that there were
  abbrev pub KeepsRowids : {V : Type 0} → Result V Error → Type 0
  KeepsRowids result =
      HasCleanDisk (state g new) → (t : Tables) → MayRun (state g old) t → (n : ℕ) → HasRowids n (state g old).now.trees
      → OnOk result (HasRowids n (state g new).now.trees)

  -- in a transaction, if the rows fit, a success takes so many of the rowids that are left
  abbrev pub TakesRowids : {V : Type 0} → Result V Error → ℕ → (Tables → Type 0) → Type 0
  TakesRowids result taken Fits =
      HasCleanDisk (state g new) → (t : Tables) → MayRun (state g old) t → Fits t
      → (n : ℕ) → HasRowids (taken + n) (state g old).now.trees → OnOk result (HasRowids n (state g new).now.trees)
