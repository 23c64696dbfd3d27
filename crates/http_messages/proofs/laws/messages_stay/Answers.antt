-- A message is the same whatever follows it.
use Rattle.http_messages.proofs.FirstLemmas.{messages_stay}
use Rattle.http_messages.proofs.laws.messages_stay.Goals as goal

pub returns : goal.returns
returns c = record { law = messages_stay }
