-- What came was added to what was received.
use Rattle.std.proofs.Math.Logic.{∥∥₁_map}
use Rattle.http_conversations.specs.declared.conversation.TheConstants.{MOST_READ, MOST_WAITING}
use Rattle.http_conversations.proofs.CallLemmas.{receives_if, receives_within}
use Rattle.http_conversations.proofs.conversation.Conversation.receive.Goals as goal

pub invariant_of-self : goal.invariant_of-self
invariant_of-self g c =
    let s = c.args.self.now in
    let did = c.receive.ensures.receives in record {
      served = ∥∥₁_map s.served (receives_if c.receive.result did);
      bounded = receives_within c.receive.result MOST_READ MOST_WAITING did c.requires.small c.requires.wants.room s.bounded;
    }
