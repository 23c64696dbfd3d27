-- The framing of a kind is read in one way.
use Rattle.http_messages.proofs.BodyLemmas.{one_body}
use Rattle.http_messages.proofs.laws.one_body.Goals as goal

pub returns : goal.returns
returns c = record { law = one_body }
