-- Each number is passed as the integer that it is.
use Rattle.std.proofs.Common.{rules}
use Rattle.desk_sql.proofs.Changing.{counts_meta}
use Rattle.desk_sql.proofs.Effects.{keyed}
use Rattle.desk_sql.proofs.Writing.{pos_is}
use Rattle.desk_sql.proofs.meta.update_meta.Goals as goal

pub returns : goal.returns
returns g c = record {
  writes = keyed (counts_meta (record { version = c.args.version; events = c.args.events; journeys = c.args.journeys })) _
      c.execute.ensures.runs (search (rules, pos_is)) (search rules);
}
