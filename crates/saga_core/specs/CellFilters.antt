-- Which cells a filter lets through.
use Rattle.std.specs.Prelude.{ℕ, ◌==◌, ◌&&◌, Bool, true, List, bytes_eq, nat_le, Option, None, Some}
use Rattle.allotment.specs.Cells.{kind_number}
use Rattle.allotment.specs.declared.cells.Cell.{Cell}
use Rattle.allotment.specs.declared.codes.Kind.{Kind}
use Rattle.saga_core.specs.declared.cell_filters.CellFilter.{CellFilter}

-- the kind of this number is the one that is named, if one is
abbrev pub is_kind_asked : Option Kind → ℕ → Bool
is_kind_asked None number = true
is_kind_asked (Some kind) number = number == kind_number kind

-- a name is the one that is asked for, if one is
abbrev pub is_name_asked : Option (List ℕ) → List ℕ → Bool
is_name_asked None name = true
is_name_asked (Some asked) name = bytes_eq name asked

-- the night is not before the first that is named, if one is
abbrev pub is_from : Option ℕ → ℕ → Bool
is_from None night = true
is_from (Some first) night = nat_le first night

-- the night is not after the last that is named, if one is
abbrev pub is_to : Option ℕ → ℕ → Bool
is_to None night = true
is_to (Some last) night = nat_le night last

-- the night is one of those from the first to the last
abbrev pub is_night_asked : Option ℕ → Option ℕ → ℕ → Bool
is_night_asked first last night = is_from first night && is_to last night

-- the cell has each of the values that the filter names
abbrev pub is_cell_asked : CellFilter → Cell → Bool
is_cell_asked f x =
    is_kind_asked f.kind (kind_number x.kind)
    && (is_name_asked f.supplier x.supplier
    && (is_name_asked f.product x.product && is_night_asked f.from f.to x.night))

-- the cell is of this kind, and has each of the other values that the filter names
abbrev pub is_cell_of : Kind → CellFilter → Cell → Bool
is_cell_of kind f x =
    (kind_number x.kind == kind_number kind)
    && (is_name_asked f.supplier x.supplier
    && (is_name_asked f.product x.product && is_night_asked f.from f.to x.night))

-- the days from which and to which nights are asked for; if none is named, 0 and the greatest number of the store
abbrev pub first_day : Option ℕ → ℕ
first_day None = 0
first_day (Some night) = night

abbrev pub last_day : Option ℕ → ℕ
last_day None = 9223372036854775807
last_day (Some night) = night
