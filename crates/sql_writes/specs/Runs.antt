-- Runs of cells: consecutive nights of one product that get the same places.
use Rattle.std.specs.Prelude.{◌≡◌, ◌+◌, ◌==◌, ◌&&◌, ℕ, ⊤, Bool, false, List, [], ◌∷◌, ◌++◌, map, filter, length, bytes_eq, nat_le}
use Rattle.std.specs.Borrow.{MutBor}
use Rattle.std.specs.List.{AllByRecursion, list_any}
use Rattle.sqlite.specs.Store.{Ghosts}
use Rattle.sqlite.specs.Held.{Held as Connection}
use Rattle.allotment.specs.Cells.{kind_number}
use Rattle.allotment.specs.declared.cells.Cell.{Cell}
use Rattle.allotment.specs.declared.places.Held.{Held}
use Rattle.desk_sql.specs.Lists.{changed}
use Rattle.desk_sql.specs.Rows.{Tables, StockRow}
use Rattle.desk_sql.specs.Stock.{is_cell, with_places, put}
use Rattle.desk_sql.specs.Writable.{IsShort}
use Rattle.sql_writes.specs.CellLoads.{LacksCell}
use Rattle.sql_writes.specs.Weeks.{nights_from, week_from}
use Rattle.sql_model.specs.Reading.{stock_row_of}
use Rattle.sql_writes.specs.Did.{DidSoFar}

-- the row of the same product so many nights later, with the same places
abbrev pub nights_later : ℕ → StockRow → StockRow
nights_later n s = record s { night = s.night + n }

-- the cell is of the same product, so many nights later, and gets the same places
pub record IsLater (first : Cell × Held) (n : ℕ) (next : Cell × Held) : Type 0 where
  pub kind : kind_number next.0.kind ≡ kind_number first.0.kind
  pub supplier : next.0.supplier ≡ first.0.supplier
  pub product : next.0.product ≡ first.0.product
  pub night : next.0.night ≡ first.0.night + n
  pub allot : next.1.allot ≡ first.1.allot
  pub free : next.1.free ≡ first.1.free

-- the cells are consecutive nights of one product, and get the same places
abbrev pub IsRun : List (Cell × Held) → Type 0
IsRun [] = ⊤
IsRun (c ∷ cells) = map stock_row_of (c ∷ cells) ≡ nights_from (stock_row_of c) (length (c ∷ cells))

-- a night of the row's product, from the row's to the last one
abbrev pub is_until : StockRow → ℕ → StockRow → Bool
is_until s last x =
    (x.kind == s.kind) && (bytes_eq x.supplier s.supplier && (bytes_eq x.product s.product
    && (nat_le s.night x.night && nat_le x.night last)))

-- each of these nights that has a row gets the row's places
abbrev pub sets_until : StockRow → ℕ → Tables → Tables
sets_until s last t = record t { stock = changed (is_until s last) (with_places s) t.stock }

-- how many of these nights have a row
abbrev pub known_until : StockRow → ℕ → Tables → ℕ
known_until s last t = length (filter (is_until s last) t.stock)

-- rows get their places, in order, each in its own row or in a new one
abbrev pub put_rows : List StockRow → List StockRow → List StockRow
put_rows [] cells = cells
put_rows (s ∷ rows) cells = put_rows rows (put s cells)

-- none of the rows has a row when its turn comes
abbrev pub AreNew : List StockRow → List StockRow → Type 0
AreNew [] cells = ⊤
AreNew (s ∷ rows) cells = (list_any (is_cell s) cells ≡ false) × AreNew rows (cells ++ s ∷ [])

-- no night of the week that begins with the row's has a row
abbrev pub LacksWeek : StockRow → Tables → Type 0
LacksWeek s t = AllByRecursion (λ x. LacksCell x t) (week_from s)

-- the rows of these cells, appended
abbrev pub adds_each : List (Cell × Held) → Tables → Tables
adds_each cells t = record t { stock = t.stock ++ map stock_row_of cells }

-- the texts of the cell fit
abbrev pub HasShortTexts : Cell × Held → Type 0
HasShortTexts c = IsShort (length c.0.supplier + length c.0.product)

-- The cells of a list are written up to these, which are left: so far the tables changed by `after`, at most a rowid each.
pub record HasWrittenUpTo {S : Type 0} (g : Ghosts S) (old now : MutBor (Connection S)) (Fits : Tables → Type 0)
    (after : List (Cell × Held) → Tables → Tables) (cells left : List (Cell × Held)) : Type 0 where
  pub done : List (Cell × Held)
  pub is : cells ≡ done ++ left
  pub did : DidSoFar g old now Fits (length done) (after done)
