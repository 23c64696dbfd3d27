use Rattle.plan.proofs.MemberLemmas.{just_each}
use Rattle.plan.proofs.members.has_just.Goals as goal

-- it has so many members, and each of these
pub returns-then-has_members : goal.returns-then-has_members
returns-then-has_members c = record {
  just = just_each c.args.names.now _ _ c.has_each.result c.if-has_members.ensures.members c.has_each.ensures.each;
}
