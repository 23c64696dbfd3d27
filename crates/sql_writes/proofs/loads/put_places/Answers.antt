-- The row of a cell is that of its places.
use Rattle.std.proofs.Common.{arith, rules}
use Rattle.sql_writes.proofs.Doing.{did_like, numbered}
use Rattle.sql_writes.proofs.Permitting.{may_put}
use Rattle.sql_writes.proofs.loads.put_places.Goals as goal

pub returns-clause-did : goal.returns-clause-did
returns-clause-did g c =
    did_like (numbered c.put_cell.ensures.writes (λ _ _. tt)) (λ t apart. search rules)
    (λ t others. search (rules, may_put)) (omega arith)
