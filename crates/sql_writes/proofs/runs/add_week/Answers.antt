-- The rows are those of the cell's nights.
use Rattle.std.proofs.Common.{arith, rules}
use Rattle.sql_writes.proofs.Doing.{did_as, did_fail, numbered}
use Rattle.sql_writes.proofs.Permitting.{may_add_week}
use Rattle.sql_writes.proofs.runs.add_week.Goals as goal

pub returns-in_err-insert_week : goal.returns-in_err-insert_week
returns-in_err-insert_week g c = search (rules, arith, did_fail, numbered, may_add_week)

pub returns : goal.returns
returns g c = record {
  did = did_as (numbered c.in_ok-insert_week.ensures.writes (λ _ _. tt)) (λ _ t _ any. search rules) (omega arith);
}
