-- The law is used as it stands.
use Rattle.reports.specs.HolderExamples.{two_stays}
use Rattle.reports.proofs.laws.places_of_two_nights.Goals as goal

pub returns : goal.returns
returns c = record { held = c.places_of_cells.ensures.held two_stays.ledger }
