-- Who holds places of which cells: the holders of each of some cells, night by night.
use Rattle.std.specs.Prelude.{◌≡◌, List, [], ◌∷◌, filter, filter_map, flat_map, map, sum_by, if◌then◌else◌, nat_le, Option, option_map}
use Rattle.allotment.specs.declared.cells.Cell.{Cell}
use Rattle.allotment.specs.declared.places.Held.{Held}
use Rattle.saga_core.specs.CellFilters.{is_cell_asked}
use Rattle.saga_core.specs.JourneyFilters.{state_of}
use Rattle.saga_core.specs.declared.cell_filters.CellFilter.{CellFilter}
use Rattle.ledger.specs.Ledger.{Event, held}
use Rattle.saga_core.specs.Views.{brief_of}
use Rattle.saga_core.specs.declared.records.Brief.{Brief}
use Rattle.reports.specs.Holders.{holders_of}
use Rattle.reports.specs.declared.holders.Holder.{Holder}
use Rattle.reports.specs.declared.holdings.Holding.{Holding}

-- a holder of a cell, with what is shown of its journey
abbrev pub holding_by : Cell → Holder → Brief → Holding
holding_by x h b =
    record { cell = x; journey = h.journey; agent = b.agent; state = state_of b.cursor.phase; places = h.places }

abbrev pub holding_of : List Event → Cell → Holder → Option Holding
holding_of l x h = option_map (holding_by x h) (brief_of l h.journey)

-- the holders of a cell, so
abbrev pub holdings_of : List Event → Cell → List Holding
holdings_of l x = filter_map (holding_of l x) (holders_of l x)

-- a cell before those of its night and of later nights
abbrev pub put_by_night : Cell → List Cell → List Cell
put_by_night x [] = x ∷ []
put_by_night x (y ∷ later) = if nat_le x.night y.night then x ∷ y ∷ later else y ∷ put_by_night x later

-- the cells in order of night; those of one night stay in their order
abbrev pub by_night : List Cell → List Cell
by_night [] = []
by_night (x ∷ later) = put_by_night x (by_night later)

-- the holders of these cells, night by night
abbrev pub holdings_in : List Event → List Cell → List Holding
holdings_in l cells = flat_map (holdings_of l) (by_night cells)

-- the cells of a stock that a filter lets through
abbrev pub cells_asked : CellFilter → List (Cell × Held) → List Cell
cells_asked f rows = filter (is_cell_asked f) (map (λ (r : Cell × Held). r.0) rows)

-- the places of the holders of cells are all that is held of these cells
abbrev pub HoldAllOfCells : List Event → Type 0
HoldAllOfCells l =
    (cells : List Cell) → sum_by (λ (h : Holding). h.places) (holdings_in l cells) ≡ sum_by (held l) cells
