-- The flags of a set are those that it is kept as.
use Rattle.std.proofs.Common.{arith}
use Rattle.plan.specs.Flags.{flags_of-flagged}
use Rattle.plan.proofs.marks.MarksPartialEq.eq.Goals as goal

pub returns : goal.returns
returns c = grind (arith, flags_of-flagged)
