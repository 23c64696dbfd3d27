-- A week of a run whose cells are new has none of its nights.
use Rattle.std.proofs.Common.{arith, rules}
use Rattle.sql_writes.proofs.Doing.{open_like}
use Rattle.sql_writes.proofs.RunWrites.{week_lacks, week_rows}
use Rattle.sql_writes.proofs.runs.add_some.Goals as goal

pub returns-then-is_week : goal.returns-then-is_week
returns-then-is_week g c = search (rules, arith, open_like, week_rows, week_lacks)
