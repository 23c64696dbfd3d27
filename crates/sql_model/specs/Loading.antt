-- The rows that a load writes, in the order of its statements.
use Rattle.std.specs.Prelude.{ℕ, ◌-◌, List, [], ◌∷◌}
use Rattle.allotment.specs.Cells.{kind_number}
use Rattle.allotment.specs.declared.cells.Cell.{Cell}
use Rattle.allotment.specs.declared.cells.Row.{Row}
use Rattle.desk_sql.specs.Rows.{Tables, StockRow}
use Rattle.desk_sql.specs.Stock.{put}
use Rattle.desk_sql.specs.Changes.{counts, adds_batch}
use Rattle.sql_model.specs.ExpectedRows.{batch_text}
use Rattle.sql_model.specs.Beginning.{meta_row_at}

-- the row of a loaded cell: the places that are not held are free
abbrev pub loaded_row : ℕ → Row → StockRow
loaded_row holds r = record {
  kind = kind_number r.cell.kind;
  supplier = r.cell.supplier;
  product = r.cell.product;
  night = r.cell.night;
  allot = r.places;
  free = r.places - holds;
}

-- the cells of these rows get their places, in order; `holds` says how many places of each are held
abbrev pub put_rows : (Cell → ℕ) → List Row → List StockRow → List StockRow
put_rows holds [] cells = cells
put_rows holds (r ∷ rows) cells = put_rows holds rows (put (loaded_row (holds r.cell) r) cells)

-- the same, in the tables
abbrev pub puts_rows : (Cell → ℕ) → List Row → Tables → Tables
puts_rows holds rows t = record t { stock = put_rows holds rows t.stock }

-- a batch was loaded, by the event with this number, among so many journeys
abbrev pub with_batch : ℕ → ℕ → List ℕ → List Row → (Cell → ℕ) → Tables → Tables
with_batch num journeys name rows holds t =
    counts (meta_row_at num journeys)
    (adds_batch (record { name = name; num = num; content = batch_text rows }) (puts_rows holds rows t))
