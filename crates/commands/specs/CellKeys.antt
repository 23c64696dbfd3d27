-- The order of cells.
use Rattle.std.specs.Prelude.{◌&&◌, Bool, true, List, [], ◌∷◌, Option, Some, None}
use Rattle.std.specs.Ordering.{nat_cmp, on, then_cmp, is_lt}
use Rattle.std.specs.Cmp.Lexicographic.{slice_cmp}
use Rattle.std.specs.declared.cmp.Ordering.{Ordering}
use Rattle.allotment.specs.Cells.{kind_number}
use Rattle.allotment.specs.declared.cells.Row.{Row}
use Rattle.commands.specs.declared.batches.CellKey.{CellKey}

-- cells as keys are ordered by kind, supplier, product and night
abbrev pub cell_key_cmp : CellKey → CellKey → Ordering
cell_key_cmp =
    then_cmp (on (λ k. kind_number k.cell.kind) nat_cmp)
    (then_cmp (on (λ k. k.cell.supplier) (slice_cmp nat_cmp))
    (then_cmp (on (λ k. k.cell.product) (slice_cmp nat_cmp)) (on (λ k. k.cell.night) nat_cmp)))

-- the cell of a row, as a key
abbrev pub row_key : Row → CellKey
row_key r = record { cell = r.cell }

-- a key is above another one, or there is no other
abbrev pub is_above : Option CellKey → CellKey → Bool
is_above None key = true
is_above (Some before) key = is_lt (cell_key_cmp before key)

-- each of the rows has a cell above that of the row before it, and the first one a cell above this
abbrev pub rises_above : Option CellKey → List Row → Bool
rises_above last [] = true
rises_above last (r ∷ later) = is_above last (row_key r) && rises_above (Some (row_key r)) later

-- each of the rows has a cell above that of the row before it
abbrev pub rises : List Row → Bool
rises rows = rises_above None rows
