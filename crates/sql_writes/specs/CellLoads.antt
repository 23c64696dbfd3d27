-- The writes of a load: an insertion of a cell that has no row, and the places of the nights of a range that have one. Their
-- texts and meanings, the change of the rows by each, and what each asks of them.
use Rattle.std.specs.Prelude.{◌≡◌, ◌≤◌, ◌+◌, ℕ, List, [], ◌∷◌, ◌++◌, filter, length, false, codes, Result, IfOk}
use Rattle.std.specs.List.{list_any}
use Rattle.sqlite.specs.Term.{Term, col}
use Rattle.sqlite.specs.Query.{Query}
use Rattle.sqlite.specs.Store.{Ghosts}
use Rattle.sqlite.specs.Held.{Held, state}
use Rattle.sqlite.specs.State.{HasCleanDisk}
use Rattle.sqlite.specs.declared.error.Error.{Error}
use Rattle.desk_sql.specs.Calls.{MayRun}
use Rattle.desk_sql.specs.Lists.{changed}
use Rattle.desk_sql.specs.Meanings.{every_row, in_range, put_cell_terms}
use Rattle.desk_sql.specs.Rows.{Tables, StockRow}
use Rattle.desk_sql.specs.Stock.{is_cell, is_within}
use Rattle.desk_sql.specs.Writable.{AreShortNights, IsShort}
use Rattle.desk_sql.specs.declared.stock.NightRange.{NightRange}

abbrev pub insert_cell_text : List ℕ
insert_cell_text = codes "INSERT INTO stock VALUES (?1, ?2, ?3, ?4, ?5, ?6)"

abbrev pub set_nights_text : List ℕ
set_nights_text = codes "UPDATE stock SET allot = ?4, free = ?5 WHERE kind = ?1 AND supplier = ?2 AND product = ?3 AND night BETWEEN ?6 AND ?7"

-- the terms of the insertion are those of the upsert
abbrev pub insert_cell_terms : List Term
insert_cell_terms = put_cell_terms

abbrev pub set_nights_query : Query
set_nights_query =
    every_row 1 (in_range 5 6)
    (col 1 0 ∷ col 1 0 ∷ col 1 1 ∷ col 1 2 ∷ col 1 3 ∷ col 1 4 ∷ col 0 3 ∷ col 0 4 ∷ [])

-- the cell has no row
abbrev pub LacksCell : StockRow → Tables → Type 0
LacksCell s t = list_any (is_cell s) t.stock ≡ false

-- one more cell, appended
abbrev pub adds_cell : StockRow → Tables → Tables
adds_cell s t = record t { stock = t.stock ++ s ∷ [] }

-- a row, with these places
abbrev pub with_both : ℕ → ℕ → StockRow → StockRow
with_both allot free x = record x { allot = allot; free = free }

-- each night of the range that has a row gets these places
abbrev pub sets_nights : NightRange → ℕ → ℕ → Tables → Tables
sets_nights r allot free t = record t { stock = changed (is_within r) (with_both allot free) t.stock }

-- how many nights of the range have a row
abbrev pub nights_in : NightRange → Tables → ℕ
nights_in r t = length (filter (is_within r) t.stock)

-- the cell has no row, its kind is in range, no more places are free than allotted, and its texts fit
pub record MayAddCell (s : StockRow) (t : Tables) : Type 0 where
  pub lacks : LacksCell s t
  pub kind : s.kind ≤ 3
  pub free : s.free ≤ s.allot
  pub short : IsShort (length s.supplier + length s.product)

-- no more places are free than allotted, and the texts of each night of the range fit
pub record MaySetNights (r : NightRange) (allot free : ℕ) (t : Tables) : Type 0 where
  pub free_is : free ≤ allot
  pub short : AreShortNights r t

module _ {S : Type 0} (g : Ghosts S) (old new : Held S) where
  -- a success returns this number of the rows before it
  abbrev pub CountsRows : Result ℕ Error → (Tables → ℕ) → Type 0
  CountsRows result count =
      HasCleanDisk (state g new) → (t : Tables) → MayRun (state g old) t
      → IfOk result (λ n. n ≡ count t)
