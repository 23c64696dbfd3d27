-- The insertion of a week: its text and meaning, the change of the rows by it, and what it asks of them.
use Rattle.std.specs.Prelude.{◌≤◌, ◌+◌, ℕ, zero, suc, List, [], ◌∷◌, ◌++◌, length, codes}
use Rattle.std.specs.List.{AllByRecursion}
use Rattle.sqlite.specs.declared.types.Value.TheVariants.{Null}
use Rattle.sqlite.specs.Term.{Term, lit, col}
use Rattle.desk_sql.specs.Rows.{Tables, StockRow}
use Rattle.desk_sql.specs.Writable.{IsShort}
use Rattle.sql_writes.specs.CellLoads.{LacksCell}

-- the row of the same product and places, a night later
abbrev pub next_night : StockRow → StockRow
next_night s = record s { night = s.night + 1 }

-- so many consecutive nights, of which the row's is the first, with its places
abbrev pub nights_from : StockRow → ℕ → List StockRow
nights_from s zero = []
nights_from s (suc more) = s ∷ nights_from (next_night s) more

-- the week whose first night is the row's, with its places
abbrev pub week_from : StockRow → List StockRow
week_from s = nights_from s 7

-- these cells, appended
abbrev pub adds_cells : List StockRow → Tables → Tables
adds_cells cells t = record t { stock = t.stock ++ cells }

abbrev pub insert_week_text : List ℕ
insert_week_text = codes "INSERT INTO stock VALUES (?1, ?2, ?3, ?6, ?4, ?5), (?1, ?2, ?3, ?7, ?4, ?5), (?1, ?2, ?3, ?8, ?4, ?5), (?1, ?2, ?3, ?9, ?4, ?5), (?1, ?2, ?3, ?10, ?4, ?5), (?1, ?2, ?3, ?11, ?4, ?5), (?1, ?2, ?3, ?12, ?4, ?5)"

-- the terms of a row whose night is this parameter, counted from 0
abbrev pub night_terms : ℕ → List Term
night_terms night = lit Null ∷ col 0 0 ∷ col 0 1 ∷ col 0 2 ∷ col 0 night ∷ col 0 3 ∷ col 0 4 ∷ []

abbrev pub insert_week_terms : List Term
insert_week_terms =
    night_terms 5 ++ night_terms 6 ++ night_terms 7 ++ night_terms 8 ++ night_terms 9 ++ night_terms 10 ++ night_terms 11

-- no night of the week has a row, its kind is in range, no more places are free than allotted, and its texts fit
pub record MayAddWeek (s : StockRow) (t : Tables) : Type 0 where
  pub lacks : AllByRecursion (λ x. LacksCell x t) (week_from s)
  pub kind : s.kind ≤ 3
  pub free : s.free ≤ s.allot
  pub short : IsShort (length s.supplier + length s.product)
