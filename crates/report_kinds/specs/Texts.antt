-- The text of each report of a ledger.
use Rattle.std.specs.Prelude.{◌≡◌, ⊤, ℕ, List, filter, Option, Some, option_map}
use Rattle.allotment.specs.declared.cells.Cell.{Cell}
use Rattle.allotment.specs.declared.places.Held.{Held}
use Rattle.ledger.specs.Ledger.{Event, history}
use Rattle.saga_core.specs.CellFilters.{is_cell_asked}
use Rattle.saga_core.specs.JourneyFilters.{asked_of}
use Rattle.saga_core.specs.declared.cell_filters.CellFilter.{CellFilter}
use Rattle.reports.specs.Holders.{holders_of}
use Rattle.reports.specs.HoldingLayouts.{holdings_shown}
use Rattle.reports.specs.Holdings.{cells_asked, holdings_in}
use Rattle.reports.specs.HolderLayouts.{holders_in}
use Rattle.month_reports.specs.MonthReports.{asked_months, months_in}
use Rattle.previews.specs.Layouts.{why_of}
use Rattle.previews.specs.Previews.{begun_as}
use Rattle.reports.specs.Formats.{history_in, journeys_in, stock_in}
use Rattle.saga_core.specs.Views.{IsStock, record_of}
use Rattle.saga_core.specs.declared.records.Record.{Record}
use Rattle.saga_core.specs.declared.report.Report.{Report}
use Rattle.saga_core.specs.declared.report.Report.TheVariants.{Stock, Journeys, Holders, Holdings, Months, History, Why}

-- the cells that are asked for, with their places
abbrev pub asked_cells : CellFilter → List (Cell × Held) → List (Cell × Held)
asked_cells f rows = filter (λ (r : Cell × Held). is_cell_asked f r.0) rows

-- the text of a report of a ledger with this stock; none of a journey that does not exist
abbrev pub report_text : Report → List Event → List (Cell × Held) → Option (List ℕ)
report_text (Stock f format) l stock = Some (stock_in format (asked_cells f stock))
report_text (Journeys name f format) l stock = Some (journeys_in name format (asked_of f l))
report_text (Holders x format) l stock = Some (holders_in format (holders_of l x))
report_text (Holdings f format) l stock = Some (holdings_shown format (holdings_in l (cells_asked f stock)))
report_text (Months months f) l stock = Some (months_in months (asked_months f stock))
report_text (History id format) l stock =
    option_map (λ (r : Record). history_in format id r (history l id)) (record_of l id)
report_text (Why id format) l stock = option_map (λ (r : Record). why_of format l id (begun_as r)) (record_of l id)

-- the list is the stock of a ledger, or the report does not depend on the stock
abbrev pub IsStockFor : Report → List Event → List (Cell × Held) → Type 0
IsStockFor (Journeys name f format) l stock = ⊤
IsStockFor (Holders x format) l stock = ⊤
IsStockFor (History id format) l stock = ⊤
IsStockFor _ l stock = IsStock l stock

-- for what a report says of a ledger, whatever its stock
abbrev pub OfReport : Report → List Event → (Option (List ℕ) → Type 0) → Type 0
OfReport report l So = (stock : List (Cell × Held)) → IsStockFor report l stock → So (report_text report l stock)

-- the report is of one journey
abbrev pub IsOfJourney : Report → Type 0
IsOfJourney (History id format) = ⊤
IsOfJourney (Why id format) = ⊤
IsOfJourney _ = ⊥
