-- A page is written piece by piece.
use Rattle.http_conversations.specs.Conversations.{history}
use Rattle.http_conversations.proofs.CallLemmas.{nothing_pending}
use Rattle.http_conversations.proofs.ServeLemmas.{hands_none, hands_then}
use Rattle.http_conversations.proofs.serving.send_page.Goals as goal

pub loop-init : goal.loop-init
loop-init g c = hands_none

-- a part of it was written
pub loop-preserved : goal.loop-preserved
loop-preserved g c = hands_then c.loop.invariant c.in_ok-send_some.ensures.some

-- all of it was written, and the writer flushed
pub returns-in-Ok-clause-all : goal.returns-in-Ok-clause-all
returns-in-Ok-clause-all g c =
    nothing_pending (history c.loop.conversation).pending c.wants_write.result c.wants_write.ensures.pending.1 c.if-not-wants_write.true

-- the next part was not
pub returns-in_err-send_some-clause-some : goal.returns-in_err-send_some-clause-some
returns-in_err-send_some-clause-some g c = hands_then c.loop.invariant c.in_err-send_some.ensures.some
