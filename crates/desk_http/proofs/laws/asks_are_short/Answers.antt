-- The law holds of each message.
use Rattle.desk_http.proofs.AskLemmas.{asks_are_short}
use Rattle.desk_http.proofs.laws.asks_are_short.Goals as goal

pub returns : goal.returns
returns c = record { law = asks_are_short }
