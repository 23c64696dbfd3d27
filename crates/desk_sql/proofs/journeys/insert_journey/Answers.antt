-- Each number is passed as the integer that it is.
use Rattle.std.proofs.Common.{rules, arith}
use Rattle.desk_sql.specs.Changes.{begun}
use Rattle.desk_sql.proofs.Inserting.{begins_journey}
use Rattle.desk_sql.proofs.Effects.{keyed}
use Rattle.desk_sql.proofs.Writing.{pos_is}
use Rattle.desk_sql.proofs.journeys.insert_journey.Goals as goal

pub returns : goal.returns
returns g c = record {
  writes = keyed
      (begins_journey (begun c.args.id c.args.num c.args.agent.now c.args.steps c.args.tries) c.requires.id (omega arith)) _ c.execute.ensures.runs (search (rules, pos_is)) (search rules);
}
