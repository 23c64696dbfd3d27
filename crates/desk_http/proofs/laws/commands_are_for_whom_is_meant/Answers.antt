-- The law holds of each message.
use Rattle.desk_http.proofs.MeantLemmas.{for_whom_is_meant}
use Rattle.desk_http.proofs.laws.commands_are_for_whom_is_meant.Goals as goal

pub returns : goal.returns
returns c = record { law = for_whom_is_meant }
