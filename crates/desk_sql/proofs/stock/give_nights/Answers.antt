-- Each number is passed as the integer that it is; the count is negated.
use Rattle.std.proofs.Common.{rules, arith}
use Rattle.desk_sql.proofs.Changing.{gives_places, kept_signed}
use Rattle.desk_sql.proofs.Effects.{numbered_at}
use Rattle.desk_sql.proofs.Writing.{pos_is}
use Rattle.desk_sql.proofs.stock.give_nights.Goals as goal

pub returns : goal.returns
returns g c = record {
  writes = numbered_at (gives_places c.args.range c.args.count) (λ n. omega arith) _ c.execute.ensures.runs
      (search (rules, pos_is, kept_signed)) (search rules);
}
