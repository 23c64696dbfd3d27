-- What is read for the report of why a journey goes on or does not.
use Rattle.std.specs.Prelude.{◌≡◌, ℕ, true, List}
use Rattle.std.specs.List.{list_all}
use Rattle.allotment.specs.Cells.{cells_of}
use Rattle.allotment.specs.Want.{Wanted}
use Rattle.saga_core.specs.CellFilters.{is_cell_of}
use Rattle.saga_core.specs.declared.cell_filters.CellFilter.{CellFilter}
use Rattle.ledger.specs.Ledger.{Event}
use Rattle.previews.specs.Previews.{begun_as, nights_ahead, preview_of}
use Rattle.saga_core.specs.declared.records.Record.{Record}
use Rattle.report_writers.specs.declared.whys.Seen.{Seen}

-- what was read is the preview of the journey, and what is free of the nights of its next want
pub record IsSeenOf (l : List Event) (id : ℕ) (journey : Record) (seen : Seen) : Type 0 where
  pub preview_is : seen.preview ≡ preview_of l id (begun_as journey)
  pub nights_are : seen.nights.items ≡ nights_ahead l (preview_of l id (begun_as journey)).next

-- the filter lets each cell of a want through that is of its kind
abbrev pub LetsCellsOf : Wanted → CellFilter → Type 0
LetsCellsOf want f = list_all (is_cell_of want.kind f) (cells_of want) ≡ true
