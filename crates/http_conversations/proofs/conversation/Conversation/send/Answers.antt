-- What was yielded is a prefix of what waited.
use Rattle.std.proofs.Math.Logic.{∥∥₁_map}
use Rattle.http_conversations.proofs.CallLemmas.{sends_if, sends_within}
use Rattle.http_conversations.proofs.conversation.Conversation.send.Goals as goal

pub invariant_of-self : goal.invariant_of-self
invariant_of-self g c =
    let s = c.args.self.now in record {
      served = ∥∥₁_map s.served (sends_if c.send.result c.send.ensures.sends);
      bounded = sends_within c.send.result _ c.send.ensures.sends s.bounded;
    }
