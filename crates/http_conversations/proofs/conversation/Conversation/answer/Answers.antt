-- The first message was taken, or not.
use Rattle.std.proofs.Common.{arith}
use Rattle.std.proofs.Math.Logic.{∥∥₁_map}
use Rattle.http_conversations.specs.Talks.{history_of}
use Rattle.http_conversations.proofs.AnswerSteps.{turn}
use Rattle.http_conversations.proofs.Steps.{takes, takes_leaves, takes_within}
use Rattle.http_conversations.proofs.conversation.Conversation.answer.Goals as goal

pub invariant_of-self : goal.invariant_of-self
invariant_of-self g c =
    let s = c.args.self.now in
    let h = history_of s.talk in
    let k = history_of c.answer.new.self in
    let taken = c.answer.ensures.answers.first.takes in record {
      served = ∥∥₁_map s.served (takes c.answer.result h k taken);
      bounded = takes_within c.answer.result h k _ taken s.bounded;
    }

pub returns-clause-turn : goal.returns-clause-turn
returns-clause-turn g c =
    turn c.answer.result (history_of c.args.self.now.talk) (history_of c.answer.new.self) c.answer.ensures.answers.first c.answer.ensures.reasons

pub returns-clause-leaves : goal.returns-clause-leaves
returns-clause-leaves g c = grind (arith, takes_leaves)
