-- Each number is passed as the integer that it is.
use Rattle.std.proofs.Common.{rules, arith}
use Rattle.desk_sql.proofs.Inserting.{saves_mark}
use Rattle.desk_sql.proofs.Effects.{numbered_at}
use Rattle.desk_sql.proofs.Writing.{pos_is}
use Rattle.desk_sql.proofs.marks.insert_mark.Goals as goal

pub returns : goal.returns
returns g c = record {
  writes = numbered_at (saves_mark c.args.journey c.args.pos) (λ n. omega arith) _ c.execute.ensures.runs (search (rules, pos_is)) (search rules);
}
