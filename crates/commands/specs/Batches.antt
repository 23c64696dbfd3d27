-- Batches: rows that set the allotments of cells, under a name.
use Rattle.std.specs.Prelude.{ℕ, ◌&&◌, not, Bool, true, List, [], ◌∷◌, ◌++◌, length, nat_le, if◌then◌else◌, Option, Some, None, Result, Ok, Err}
use Rattle.std.specs.List.{list_any, list_all}
use Rattle.allotment.specs.Limits.{is_between, is_good_cell, most_places}
use Rattle.allotment.specs.Cells.{is_cell}
use Rattle.allotment.specs.declared.cells.Row.{Row}
use Rattle.commands.specs.Limits.{most_rows}
use Rattle.commands.specs.Names.{is_batch_name}
use Rattle.commands.specs.declared.batches.BadBatch.{BadBatch}
use Rattle.commands.specs.declared.batches.BadBatch.TheVariants.{Count, Twice}
use Rattle.commands.specs.BatchData.{Batched}

-- no row is of this cell
abbrev pub is_new_cell : Row → List Row → Bool
is_new_cell r later = not (list_any (λ (s : Row). is_cell r.cell s.cell) later)

-- the rows name each cell once
abbrev pub are_distinct : List Row → Bool
are_distinct [] = true
are_distinct (r ∷ later) = is_new_cell r later && are_distinct later

-- among rows after these, the first one whose cell stands in an earlier row: its index, counted from 0
abbrev pub repeat_behind : List Row → List Row → Option ℕ
repeat_behind earlier [] = None
repeat_behind earlier (r ∷ later) =
    if is_new_cell r earlier then repeat_behind (earlier ++ (r ∷ [])) later else Some (length earlier)

-- the index, counted from 0, of the first row whose cell stands in an earlier row
abbrev pub repeat_among : List Row → Option ℕ
repeat_among rows = repeat_behind [] rows

-- the row keeps the limits: those of its cell, and at most 100,000 places
abbrev pub is_good_row : Row → Bool
is_good_row r = is_good_cell r.cell && nat_le r.places most_places

-- a batch keeps the limits: its name, 1 to 2,000 rows, and each cell once
abbrev pub is_batch : List ℕ → List Row → Bool
is_batch name rows =
    is_batch_name name && is_between 1 most_rows (length rows) && list_all is_good_row rows
    && are_distinct rows

-- the batch of this name and these rows, or the first limit that they break
abbrev pub batch_made : List ℕ → List Row → Result Batched BadBatch
batch_made name rows =
    if not (is_between 1 most_rows (length rows)) then Err Count
    else if are_distinct rows then Ok (record { name = name; rows = rows })
    else Err Twice
