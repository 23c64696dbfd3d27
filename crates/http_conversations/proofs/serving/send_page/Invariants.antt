use Rattle.http_conversations.specs.Conversations.{history}
use Rattle.http_conversations.specs.Serving.{HandsOut}
use Rattle.http_conversations.proofs.serving.send_page.Given as goal

-- a prefix of the page was written
abbrev pub invariant-loop : goal.invariant-loop
invariant-loop g l =
    HandsOut (g.W.Write.contents l.fn.writer) (g.W.Write.contents l.writer) (history l.fn.conversation) (history l.conversation)
