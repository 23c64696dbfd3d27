-- Each number is passed as the integer that it is.
use Rattle.std.proofs.Common.{rules, arith}
use Rattle.desk_sql.proofs.Changing.{marks_option}
use Rattle.desk_sql.proofs.Effects.{numbered_at}
use Rattle.desk_sql.proofs.Writing.{pos_is}
use Rattle.desk_sql.proofs.steps.mark_step.Goals as goal

pub returns : goal.returns
returns g c = record {
  writes = numbered_at (marks_option c.args.journey c.args.place c.args.opt c.args.taken) (λ n. omega arith) _
      c.execute.ensures.runs (search (rules, pos_is)) (search rules);
}
