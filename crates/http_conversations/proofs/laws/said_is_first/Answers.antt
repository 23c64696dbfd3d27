-- A stream has one first message.
use Rattle.http_conversations.proofs.SaidLemmas.{said_is_first}
use Rattle.http_conversations.proofs.laws.said_is_first.Goals as goal

pub returns : goal.returns
returns c = record { law = said_is_first }
