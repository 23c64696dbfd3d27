-- Each number is passed as the integer that it is.
use Rattle.std.proofs.Common.{rules, arith}
use Rattle.desk_sql.specs.Changes.{untaken}
use Rattle.desk_sql.proofs.Inserting.{offers_step}
use Rattle.desk_sql.proofs.Effects.{numbered_at}
use Rattle.desk_sql.proofs.Writing.{pos_is}
use Rattle.desk_sql.proofs.steps.insert_step.Goals as goal

pub returns : goal.returns
returns g c = record {
  writes = numbered_at (offers_step (untaken c.args.option)) (λ n. omega arith) _ c.execute.ensures.runs (search (rules, pos_is)) (search rules);
}
