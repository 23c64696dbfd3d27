-- The number is passed as the integer that it is.
use Rattle.std.proofs.Common.{rules, arith}
use Rattle.desk_sql.proofs.Inserting.{loads_batch}
use Rattle.desk_sql.proofs.Effects.{numbered_at}
use Rattle.desk_sql.proofs.Writing.{pos_is}
use Rattle.desk_sql.proofs.batches.insert_batch.Goals as goal

pub returns : goal.returns
returns g c = record {
  writes = numbered_at (loads_batch (record { name = c.args.name.now; num = c.args.num; content = c.args.content.now }))
      (λ n. omega arith) _ c.execute.ensures.runs (search (rules, pos_is)) (search rules);
}
