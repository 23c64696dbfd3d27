-- The nights that are read of the rows are the query's answer.
use Rattle.std.proofs.Common.{rules}
use Rattle.desk_sql.proofs.Asking.{is_read_at, not_asked_at}
use Rattle.desk_sql.proofs.DeskQueries.{finds_nights}
use Rattle.desk_sql.proofs.Writing.{pos_is}
use Rattle.desk_sql.proofs.stock.find_nights.Goals as goal

pub all_rows-requires : goal.all_rows-requires
all_rows-requires g c = (finds_nights c.args.range).selects

pub returns : goal.returns
returns g c = record {
  queries = is_read_at (finds_nights c.args.range) (λ all. all.items) c.all_rows.ensures.quiet c.in_ok-rows.rows.items
      c.read_nights.result _ c.in_ok-rows.ensures.rows (search (rules, pos_is))
      (simp c.as_slice.ensures.value at c.read_nights.ensures.shown) (simp c.as_slice.ensures.value at c.read_nights.ensures.reason);
}

pub returns-in_err-rows : goal.returns-in_err-rows
returns-in_err-rows g c = record {
  queries = not_asked_at (finds_nights c.args.range) (λ all. all.items) c.all_rows.ensures.quiet _ c.in_err-rows.ensures.reason
      (search (rules, pos_is)) (search rules);
}
