-- The rows of a list that remain, in the desk's words: cells with their places, and briefs of journeys.
use Rattle.std.specs.Prelude.{List, map, IsTrue}
use Rattle.std.specs.List.{AllByRecursion}
use Rattle.allotment.specs.declared.cells.Cell.{Cell}
use Rattle.allotment.specs.declared.places.Held.{Held as HeldPlaces}
use Rattle.allotment.specs.Limits.{is_good_cell}
use Rattle.commands.specs.Names.{is_agent}
use Rattle.saga_core.specs.declared.records.Brief.{Brief}
use Rattle.sqlite.specs.Store.{Ghosts}
use Rattle.sqlite.specs.Held.{Held}
use Rattle.desk_sql.specs.Rows.{JourneyRow}
use Rattle.sql_model.specs.Reading.{stock_row_of}
use Rattle.sql_model.specs.Briefs.{TellBriefs}
use Rattle.sql_lists.specs.CellLists.{CellsRest}
use Rattle.sql_lists.specs.JourneyLists.{JourneysRest}

module _ {S : Type 0} (g : Ghosts S) where
  -- these rows of the desk remain

  abbrev pub StockRests : Held S → List (Cell × HeldPlaces) → Type 0
  StockRests h rows = CellsRest g h (map stock_row_of rows)

  abbrev pub BriefsRest : Held S → List Brief → Type 0
  BriefsRest h briefs = (rows : List JourneyRow) × JourneysRest g h rows × TellBriefs rows briefs

  -- such rows are, and each is of a cell, or of an agent, that keeps its limits
  abbrev pub AreGoodCellsRest : Held S → Type 0
  AreGoodCellsRest h =
      (rows : List (Cell × HeldPlaces)) × StockRests h rows
      × AllByRecursion (λ (c : Cell × HeldPlaces). IsTrue (is_good_cell c.0)) rows

  abbrev pub AreGoodBriefsRest : Held S → Type 0
  AreGoodBriefsRest h =
      (briefs : List Brief) × BriefsRest h briefs
      × AllByRecursion (λ (b : Brief). IsTrue (is_agent b.agent)) briefs
