-- The row of a cell is that of its places.
use Rattle.std.proofs.Common.{arith, rules}
use Rattle.sql_writes.proofs.Doing.{did_like, numbered}
use Rattle.sql_writes.proofs.Permitting.{may_add_cell}
use Rattle.sql_writes.proofs.runs.add_places.Goals as goal

pub returns : goal.returns
returns g c = record {
  did = did_like (numbered c.insert_cell.ensures.writes (λ _ _. tt)) (λ t any. search rules)
      (λ t lacks. search (rules, may_add_cell)) (omega arith);
}
