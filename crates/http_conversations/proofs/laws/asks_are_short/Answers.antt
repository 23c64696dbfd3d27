-- A head and a body are short, and the target that is meant is no longer than the one that was sent.
use Rattle.http_conversations.proofs.AskLemmas.{asks_are_short}
use Rattle.http_conversations.proofs.laws.asks_are_short.Goals as goal

pub returns : goal.returns
returns c = record { law = asks_are_short }
