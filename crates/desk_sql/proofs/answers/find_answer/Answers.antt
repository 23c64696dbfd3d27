-- The row that is read is one under the key; no row means that there is none.
use Rattle.std.proofs.Common.{rules}
use Rattle.desk_sql.proofs.Asking.{is_read_at, not_asked_at}
use Rattle.desk_sql.proofs.DeskQueries.{finds_answer}
use Rattle.desk_sql.proofs.Writing.{pos_is}
use Rattle.desk_sql.proofs.answers.find_answer.Goals as goal

pub first_row-requires : goal.first_row-requires
first_row-requires g c = (finds_answer c.args.agent.now c.args.mark.now).selects

pub returns : goal.returns
returns g c = record {
  queries = is_read_at (finds_answer c.args.agent.now c.args.mark.now) (λ found. found) c.first_row.ensures.quiet
      c.in_ok-row.row c.answer_of.result _ c.in_ok-row.ensures.row (search (rules, pos_is))
      c.answer_of.ensures.shown c.answer_of.ensures.reason;
}

pub returns-in_err-row : goal.returns-in_err-row
returns-in_err-row g c = record {
  queries = not_asked_at (finds_answer c.args.agent.now c.args.mark.now) (λ found. found) c.first_row.ensures.quiet _
      c.in_err-row.ensures.reason (search (rules, pos_is)) (search rules);
}
