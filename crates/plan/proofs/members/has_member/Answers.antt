use Rattle.std.proofs.Common.{ap, sym, ◌∙◌, is_some}
use Rattle.plan.proofs.MemberLemmas.{is_some-option_map}
use Rattle.plan.proofs.members.has_member.Goals as goal

-- what is found is there
pub returns : goal.returns
returns c = record { there = c.is_some.ensures ∙ sym (is_some-option_map _ c.get.result) ∙ ap is_some c.get.ensures }
