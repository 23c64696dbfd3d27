-- Each number is passed as the integer that it is.
use Rattle.std.proofs.Common.{rules}
use Rattle.desk_sql.proofs.Changing.{moves_cursor}
use Rattle.desk_sql.proofs.Effects.{keyed}
use Rattle.desk_sql.proofs.Writing.{pos_is}
use Rattle.desk_sql.proofs.journeys.move_journey.Goals as goal

pub returns : goal.returns
returns g c = record {
  writes = keyed (moves_cursor c.args.id c.args.cursor c.requires.id) _ c.execute.ensures.runs (search (rules, pos_is)) (search rules);
}
