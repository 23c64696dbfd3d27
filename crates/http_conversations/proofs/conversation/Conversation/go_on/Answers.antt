-- 100 Continue was given, or not.
use Rattle.std.proofs.Common.{arith}
use Rattle.std.proofs.Math.Logic.{∥∥₁_map}
use Rattle.http_conversations.specs.Talks.{history_of}
use Rattle.http_conversations.proofs.CallLemmas.{given_or_not, goes_on, goes_on_quiet, goes_on_within}
use Rattle.http_conversations.proofs.conversation.Conversation.go_on.Goals as goal

pub invariant_of-self : goal.invariant_of-self
invariant_of-self c =
    let s = c.args.self.now in
    let h = history_of s.talk in
    let k = history_of c.go_on.new.self in
    let does = given_or_not c.go_on.result h k c.go_on.ensures.gives in
    record {
      served = ∥∥₁_map s.served (goes_on h k does);
      bounded = goes_on_within h k _ does s.bounded;
    }

pub returns-clause-quiet : goal.returns-clause-quiet
returns-clause-quiet c = grind (arith, goes_on_quiet, given_or_not)
