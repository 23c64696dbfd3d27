-- The bytes of each text are those of its argument.
use Rattle.std.proofs.Common.{rules, arith}
use Rattle.desk_sql.specs.Changes.{kept}
use Rattle.desk_sql.proofs.Inserting.{keeps_answer}
use Rattle.desk_sql.proofs.Effects.{numbered_at}
use Rattle.desk_sql.proofs.Writing.{pos_is}
use Rattle.desk_sql.proofs.answers.insert_answer.Goals as goal

pub returns : goal.returns
returns g c = record {
  writes = numbered_at (keeps_answer (kept c.args.agent.now c.args.mark.now c.args.ask.now c.args.reply.now)) (λ n. omega arith)
      _ c.execute.ensures.runs (search (rules, pos_is)) (search rules);
}
