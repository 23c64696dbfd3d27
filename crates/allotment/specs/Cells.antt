-- Cells, and the cells of a want.
use Rattle.std.specs.Prelude.{ℕ, zero, suc, ◌==◌, ◌&&◌, Bool, List, [], ◌∷◌, map, bytes_eq}
use Rattle.std.specs.List.{list_any}
use Rattle.allotment.specs.Want.{Wanted}
use Rattle.allotment.specs.declared.codes.Kind.{Kind}
use Rattle.allotment.specs.declared.codes.Kind.TheVariants.{Flight, Room, Transfer, Cover}
use Rattle.allotment.specs.declared.cells.Cell.{Cell}

-- the number of a kind, by which kinds are ordered
abbrev pub kind_number : Kind → ℕ
kind_number Flight = 0
kind_number Room = 1
kind_number Transfer = 2
kind_number Cover = 3

-- two cells are the same if kind, supplier, product and night are
abbrev pub is_cell : Cell → Cell → Bool
is_cell x y =
    (kind_number x.kind == kind_number y.kind) && bytes_eq x.supplier y.supplier && bytes_eq x.product y.product
    && (x.night == y.night)

-- so many consecutive numbers, from the first on
abbrev pub numbers_from : ℕ → ℕ → List ℕ
numbers_from first zero = []
numbers_from first (suc more) = first ∷ numbers_from (suc first) more

-- the cell of these parts
abbrev pub the_cell : Kind → List ℕ → List ℕ → ℕ → Cell
the_cell kind supplier product night =
    record { kind = kind; supplier = supplier; product = product; night = night }

-- the cell of a want at a night
abbrev pub cell_at : Wanted → ℕ → Cell
cell_at want night = the_cell want.kind want.supplier want.product night

-- the cells of a want: one for each of its nights
abbrev pub cells_of : Wanted → List Cell
cells_of want = map (cell_at want) (numbers_from want.first want.nights)

-- the want takes places of this cell
abbrev pub wants_cell : Wanted → Cell → Bool
wants_cell want x = list_any (is_cell x) (cells_of want)
