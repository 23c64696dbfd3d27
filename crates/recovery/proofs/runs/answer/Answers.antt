-- The order of a line has the meaning of its text.
use Rattle.std.proofs.Common.{arith}
use Rattle.recovery.proofs.runs.answer.Goals as goal

pub returns-clause-may_act : goal.returns-clause-may_act
returns-clause-may_act g c = grind arith

pub returns-clause-reason : goal.returns-clause-reason
returns-clause-reason g c = grind arith
