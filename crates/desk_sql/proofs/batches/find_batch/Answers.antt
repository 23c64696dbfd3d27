-- The row that is read is one of the name; no row means that there is none.
use Rattle.std.proofs.Common.{rules}
use Rattle.desk_sql.proofs.Asking.{is_read_at, not_asked_at}
use Rattle.desk_sql.proofs.DeskQueries.{finds_batch}
use Rattle.desk_sql.proofs.Writing.{pos_is}
use Rattle.desk_sql.proofs.batches.find_batch.Goals as goal

pub first_row-requires : goal.first_row-requires
first_row-requires g c = (finds_batch c.args.name.now).selects

pub returns : goal.returns
returns g c = record {
  queries = is_read_at (finds_batch c.args.name.now) (λ found. found) c.first_row.ensures.quiet c.in_ok-row.row
      c.read_batch.result _ c.in_ok-row.ensures.row (search (rules, pos_is))
      c.read_batch.ensures.shown c.read_batch.ensures.reason;
}

pub returns-in_err-row : goal.returns-in_err-row
returns-in_err-row g c = record {
  queries = not_asked_at (finds_batch c.args.name.now) (λ found. found) c.first_row.ensures.quiet _ c.in_err-row.ensures.reason
      (search (rules, pos_is)) (search rules);
}
