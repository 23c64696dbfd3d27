-- The law holds of each message.
use Rattle.desk_http.proofs.AgainLemmas.{answered_as_before}
use Rattle.desk_http.proofs.laws.again.Goals as goal

pub returns : goal.returns
returns c = record { law = answered_as_before }
