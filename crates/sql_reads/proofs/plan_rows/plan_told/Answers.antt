-- The rows of a plan that keeps the limits give that plan.
use Rattle.std.proofs.Common.{arith, rules}
use Rattle.sql_reads.proofs.BuiltPlans.{made_good}
use Rattle.sql_reads.proofs.plan_rows.plan_told.Goals as goal

pub returns-in-Err-Bad-clause-there : goal.returns-in-Err-Bad-clause-there
returns-in-Err-Bad-clause-there c id plan are few = search (rules, arith, made_good)
