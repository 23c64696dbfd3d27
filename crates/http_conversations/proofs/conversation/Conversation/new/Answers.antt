-- Nothing was done yet.
use Rattle.std.proofs.Common.{ap, arith, length, subst, sym}
use Rattle.http_conversations.specs.History.{History, IsServed}
use Rattle.http_conversations.proofs.Steps.{begins}
use Rattle.http_conversations.proofs.conversation.Conversation.new.Goals as goal

pub invariant_of-result : goal.invariant_of-result
invariant_of-result c = record {
  served = ∣ subst IsServed (sym c.new.ensures.none) (begins c.args.door c.args.mode) ∣₁;
  bounded = omega (arith, ap (λ (h : History). length h.waiting) c.new.ensures.none);
}
