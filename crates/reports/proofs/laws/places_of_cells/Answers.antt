-- The holders of each cell hold all that is held of it.
use Rattle.reports.proofs.CellSumLemmas.{sum_by-holdings_in}
use Rattle.reports.proofs.laws.places_of_cells.Goals as goal

pub returns : goal.returns
returns c = record { held = λ l cells. sum_by-holdings_in l cells }
