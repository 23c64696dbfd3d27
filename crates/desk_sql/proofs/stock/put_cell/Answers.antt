-- Each number is passed as the integer that it is.
use Rattle.std.proofs.Common.{rules, arith}
use Rattle.desk_sql.specs.Stock.{placed}
use Rattle.desk_sql.proofs.PutReasons.{sets_cell}
use Rattle.desk_sql.proofs.Effects.{numbered_at}
use Rattle.desk_sql.proofs.Writing.{pos_is}
use Rattle.desk_sql.proofs.stock.put_cell.Goals as goal

pub returns : goal.returns
returns g c = record {
  writes = numbered_at (sets_cell (placed c.args.cell)) (λ n. omega arith) _ c.execute.ensures.runs (search (rules, pos_is)) (search rules);
}
