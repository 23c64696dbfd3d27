-- A message is read in one way.
use Rattle.http_messages.proofs.WideLemmas.{one_first}
use Rattle.http_messages.proofs.laws.one_first.Goals as goal

pub returns : goal.returns
returns c = record { law = one_first }
