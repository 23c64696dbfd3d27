-- The cells and journeys that remain in a source.
use Rattle.std.specs.Prelude.{◌≡◌, List, filter}
use Rattle.allotment.specs.declared.cells.Cell.{Cell}
use Rattle.allotment.specs.declared.codes.Kind.{Kind}
use Rattle.allotment.specs.declared.places.Held.{Held as HeldPlaces}
use Rattle.saga_core.specs.CellFilters.{is_cell_of}
use Rattle.saga_core.specs.declared.cell_filters.CellFilter.{CellFilter}
use Rattle.ledger.specs.Ledger.{Event}
use Rattle.saga_core.specs.Views.{IsStock}

-- the cells of a kind that a filter lets through, in order, with their places
abbrev pub AreCellsOf : Kind → CellFilter → List Event → List (Cell × HeldPlaces) → Type 0
AreCellsOf kind f l rows =
    (all : List (Cell × HeldPlaces)) × IsStock l all
    × (rows ≡ filter (λ (c : Cell × HeldPlaces). is_cell_of kind f c.0) all)
