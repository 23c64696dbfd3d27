-- The holders of cells, night by night, that remain in a source.
use Rattle.std.specs.Prelude.{◌≡◌, ◌≤◌, ℕ, IsTrue, List, map}
use Rattle.std.specs.List.{AllByRecursion}
use Rattle.allotment.specs.Cells.{kind_number}
use Rattle.allotment.specs.declared.cells.Cell.{Cell}
use Rattle.allotment.specs.declared.places.Held.{Held as Places}
use Rattle.commands.specs.Names.{is_agent}
use Rattle.saga_core.specs.declared.cell_filters.CellFilter.{CellFilter}
use Rattle.ledger.specs.Ledger.{Event}
use Rattle.saga_core.specs.Views.{IsStock}
use Rattle.sqlite.specs.Store.{Ghosts}
use Rattle.sqlite.specs.Held.{Held}
use Rattle.reports.specs.Holdings.{cells_asked, holdings_in}
use Rattle.reports.specs.declared.holdings.Holding.{Holding}
use Rattle.sql_lists.specs.HoldingLists.{HoldingRow, HoldingsRest}
use Rattle.sql_lists.specs.JourneyLists.{state_number}
use Rattle.sql_reads.specs.GoodRows.{IsGoodStock}

-- what a row and a holder have in common
pub record HoldingShort : Type 0 where
  pub kind : ℕ
  pub supplier : List ℕ
  pub product : List ℕ
  pub night : ℕ
  pub journey : ℕ
  pub agent : List ℕ
  pub state : ℕ
  pub places : ℕ

abbrev pub holding_short : HoldingRow → HoldingShort
holding_short r = record {
  kind = r.cell.kind;
  supplier = r.cell.supplier;
  product = r.cell.product;
  night = r.cell.night;
  journey = r.journey;
  agent = r.agent;
  state = r.phase;
  places = r.places;
}

abbrev pub holding_told : Holding → HoldingShort
holding_told h = record {
  kind = kind_number h.cell.kind;
  supplier = h.cell.supplier;
  product = h.cell.product;
  night = h.cell.night;
  journey = h.journey;
  agent = h.agent;
  state = state_number h.state;
  places = h.places;
}

-- the holders of the cells of a stock that a filter lets through, night by night
abbrev pub AreHoldingsOf : CellFilter → List Event → List Holding → Type 0
AreHoldingsOf f l holdings =
    (rows : List (Cell × Places)) × IsStock l rows × (holdings ≡ holdings_in l (cells_asked f rows))

-- the row is of a cell, an agent and a state that keep their limits
pub record IsGoodHolding (r : HoldingRow) : Type 0 where
  pub cell : IsGoodStock r.cell
  pub agent : IsTrue (is_agent r.agent)
  pub state : r.phase ≤ 3

module _ {S : Type 0} (g : Ghosts S) where
  -- these holders remain
  abbrev pub HoldingsLeft : Held S → List Holding → Type 0
  HoldingsLeft h holdings = (rows : List HoldingRow) × HoldingsRest g h rows × (map holding_short rows ≡ map holding_told holdings)

  -- some rows remain, and each keeps the limits
  abbrev pub AreGoodHoldingsRest : Held S → Type 0
  AreGoodHoldingsRest h = (rows : List HoldingRow) × HoldingsRest g h rows × AllByRecursion IsGoodHolding rows
