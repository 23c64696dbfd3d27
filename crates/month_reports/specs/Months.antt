-- The months of a list of cells: adjacent cells of one product, each of a later night of the same month.
use Rattle.std.specs.Prelude.{◌≡◌, ℕ, ◌==◌, ◌&&◌, Bool, false, List, [], ◌∷◌, filter, bytes_eq, nat_lt, if◌then◌else◌, Option, None, Some}
use Rattle.allotment.specs.Cells.{kind_number}
use Rattle.allotment.specs.Nights.{date_of}
use Rattle.allotment.specs.declared.cells.Cell.{Cell}
use Rattle.allotment.specs.declared.places.Held.{Held}
use Rattle.saga_core.specs.CellFilters.{is_cell_asked}
use Rattle.saga_core.specs.declared.cell_filters.CellFilter.{CellFilter}

-- a cell and its places
abbrev pub Places : Type 0
Places = Cell × Held

-- two cells are of one product
abbrev pub is_product : Cell → Cell → Bool
is_product x y =
    (kind_number x.kind == kind_number y.kind) && (bytes_eq x.supplier y.supplier && bytes_eq x.product y.product)

-- the second date is a later day of the first one's month
abbrev pub is_later_day : ℕ × (ℕ × ℕ) → ℕ × (ℕ × ℕ) → Bool
is_later_day x y = (x.0 == y.0) && ((x.1.0 == y.1.0) && nat_lt x.1.1 y.1.1)

-- the second cell goes on with the month of the first: a later night of the same product in the same month
abbrev pub goes_on : Cell → Cell → Bool
goes_on x y = is_product x y && is_later_day (date_of x.night) (date_of y.night)

-- the first of these cells goes on with the month of a cell
abbrev pub is_followed : Cell → List Places → Bool
is_followed x [] = false
is_followed x (next ∷ later) = goes_on x next.0

-- the cell is in the first of these months, before its other cells
abbrev pub before_first : Places → List (List Places) → List (List Places)
before_first row [] = (row ∷ []) ∷ []
before_first row (month ∷ others) = (row ∷ month) ∷ others

-- the months of a list of cells, in its order: a cell is in the month of the next one if that one goes on with it
abbrev pub months_of : List Places → List (List Places)
months_of [] = []
months_of (row ∷ later) =
    if is_followed row.0 later then before_first row (months_of later) else (row ∷ []) ∷ months_of later

-- the cells that are asked for, with their places
abbrev pub asked_of : CellFilter → List Places → List Places
asked_of f rows = filter (λ (row : Places). is_cell_asked f row.0) rows

-- these are the cells asked for of those that a source still has
abbrev pub AskedRest : CellFilter → (List Places → Type 0) → List Places → Type 0
AskedRest f rests asked = (rows : List Places) × rests rows × (asked ≡ asked_of f rows)

-- these months remain where a first cell was read and not written, and the source has the cells after it; none remains
-- where there is no such cell
abbrev pub MonthsRest : (List Places → Type 0) → Option Places → List (List Places) → Type 0
MonthsRest rests None months = (months ≡ []) × rests []
MonthsRest rests (Some first) months = (later : List Places) × rests later × (months ≡ months_of (first ∷ later))
