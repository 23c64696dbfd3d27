use Rattle.std.proofs.Common.{arith}
use Rattle.month_reports.proofs.RunLemmas.{are_in_order-filter, cells_in-months_of, list_all-filter, months_apart}
use Rattle.month_reports.proofs.laws.each_month_is_one_run.Goals as goal

-- a cell is in its month or begins one
pub returns-clause-whole : goal.returns-clause-whole
returns-clause-whole c = λ rows. cells_in-months_of rows

-- cells between two of one product and month are of it, and go on with it
pub returns-clause-apart : goal.returns-clause-apart
returns-clause-apart c = λ rows nights ordered. months_apart rows nights ordered

-- cells that are let through are in order too
pub returns-clause-asked : goal.returns-clause-asked
returns-clause-asked c = grind (arith, months_apart, list_all-filter, are_in_order-filter)
