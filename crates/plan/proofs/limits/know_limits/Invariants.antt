use Rattle.std.proofs.Common.{take, IsTrue}
use Rattle.std.specs.List.{list_all}
use Rattle.allotment.specs.Limits.{is_want}
use Rattle.plan.proofs.limits.know_limits.Given as goal

-- the wants so far keep the limits
abbrev pub invariant-loop-want : goal.invariant-loop-want
invariant-loop-want l = IsTrue (list_all is_want (take l.want-index l.wants))
