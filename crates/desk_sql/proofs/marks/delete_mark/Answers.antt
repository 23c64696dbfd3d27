-- Each number is passed as the integer that it is.
use Rattle.std.proofs.Common.{rules}
use Rattle.desk_sql.proofs.UpdateReasons.{drops}
use Rattle.desk_sql.proofs.Effects.{keyed}
use Rattle.desk_sql.proofs.Writing.{pos_is}
use Rattle.desk_sql.proofs.marks.delete_mark.Goals as goal

pub returns : goal.returns
returns g c = record {
  writes = keyed (drops c.args.journey c.args.pos) _ c.execute.ensures.runs (search (rules, pos_is)) (search rules);
}
