-- The rows that a load writes, and its preconditions on the rows before it.
use Rattle.std.specs.Prelude.{List, [], ◌∷◌}
use Rattle.allotment.specs.declared.cells.Cell.{Cell}
use Rattle.allotment.specs.declared.places.Held.{Held}
use Rattle.desk_sql.specs.Rows.{Tables, StockRow}
use Rattle.desk_sql.specs.Stock.{put}
use Rattle.desk_sql.specs.Changes.{counts, adds_batch}
use Rattle.sql_model.specs.Beginning.{meta_row_at}
use Rattle.sql_model.specs.Reading.{stock_row_of}
use Rattle.sql_model.specs.Standing.{AreApart, is_same_stock}
use Rattle.sql_writes.specs.declared.events.Numbers.{Numbers}
use Rattle.sql_writes.specs.declared.events.BatchLoaded.{BatchLoaded}

-- the cells get these places, in order
abbrev pub put_each : List (Cell × Held) → List StockRow → List StockRow
put_each [] rows = rows
put_each (c ∷ cells) rows = put_each cells (put (stock_row_of c) rows)

-- the same, in the tables
abbrev pub puts_each : List (Cell × Held) → Tables → Tables
puts_each cells t = record t { stock = put_each cells t.stock }

-- no two rows are of one cell
abbrev pub MayLoad : Tables → Type 0
MayLoad t = AreApart is_same_stock t.stock

-- the rows after a load
abbrev pub load_rows : Numbers → BatchLoaded → Tables → Tables
load_rows n b t =
    counts (meta_row_at n.num n.journeys)
    (adds_batch (record { name = b.name.now; num = n.num; content = b.content.now })
    (puts_each b.cells.now t))
