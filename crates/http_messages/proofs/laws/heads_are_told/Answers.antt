-- The walk through a head is decided where the head ends, and nowhere before.
use Rattle.http_messages.proofs.ToldLemmas.{head_is_told}
use Rattle.http_messages.proofs.laws.heads_are_told.Goals as goal

pub returns : goal.returns
returns c = record { law = head_is_told }
