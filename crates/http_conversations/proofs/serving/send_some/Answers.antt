-- One write, after writes that were interrupted.
use Rattle.http_conversations.proofs.ServeLemmas.{hands_more, hands_none}
use Rattle.http_conversations.proofs.serving.send_some.Goals as goal

pub loop-init : goal.loop-init
loop-init g c = hands_none

-- a part of the page was written
pub returns-in-Ok-clause-some : goal.returns-in-Ok-clause-some
returns-in-Ok-clause-some g c = hands_more c.in-Ok.field-0 c.loop.invariant c.in-Ok.ensures.sends.ok
