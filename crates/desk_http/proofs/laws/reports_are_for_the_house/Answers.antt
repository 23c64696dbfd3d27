-- The law holds of each request.
use Rattle.desk_http.proofs.RequestLemmas.{reports_for_house}
use Rattle.desk_http.proofs.laws.reports_are_for_the_house.Goals as goal

pub returns : goal.returns
returns c = record { law = reports_for_house }
