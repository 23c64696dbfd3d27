-- Each holder holds what its transaction holds.
use Rattle.reports.proofs.SumLemmas.{sum_by-holders_of}
use Rattle.reports.proofs.laws.places_of_holders.Goals as goal

pub returns : goal.returns
returns c = record { held = λ l x. sum_by-holders_of l x }
