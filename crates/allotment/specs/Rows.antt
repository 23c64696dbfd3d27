-- What a row of an allotment file says.
use Rattle.std.specs.Prelude.{ℕ, ◌&&◌, Bool, nat_le}
use Rattle.allotment.specs.Limits.{is_good_cell, most_places}
use Rattle.allotment.specs.declared.cells.Cell.{Cell}

-- so many places of this cell
pub record Allotted : Type 0 where
  pub cell : Cell
  pub places : ℕ

-- so many places of a cell, as a row
abbrev pub allotted : Cell → ℕ → Allotted
allotted cell places = record { cell = cell; places = places }

-- the row keeps the limits
abbrev pub is_row : Allotted → Bool
is_row row = is_good_cell row.cell && nat_le row.places most_places
