-- The first decided prefix is unique, and so is the head that is read of it.
use Rattle.http_messages.proofs.MessageLemmas.{one_reading}
use Rattle.http_messages.proofs.laws.one_reading.Goals as goal

pub returns : goal.returns
returns c = record { law = one_reading }
