-- Each number is passed as the integer that it is.
use Rattle.std.proofs.Common.{rules}
use Rattle.desk_sql.proofs.Inserting.{notes_item}
use Rattle.desk_sql.proofs.Effects.{keyed}
use Rattle.desk_sql.proofs.Writing.{pos_is}
use Rattle.desk_sql.proofs.journeys.insert_item.Goals as goal

pub returns : goal.returns
returns g c = record {
  writes = keyed (notes_item c.args.journey c.args.item c.requires.item.0) _ c.execute.ensures.runs (search (rules, pos_is)) (search rules);
}
