-- The row that is read is the first of the query's answer; no row means that there is none.
use Rattle.std.proofs.Common.{rules}
use Rattle.desk_sql.specs.declared.versions.Version.TheVariants.{Two}
use Rattle.desk_sql.proofs.Asking.{is_read_at, not_asked_at}
use Rattle.desk_sql.proofs.DeskQueries.{finds_journey}
use Rattle.desk_sql.proofs.Writing.{pos_is}
use Rattle.desk_sql.proofs.journeys.find_journey.Goals as goal

pub first_row-requires : goal.first_row-requires
first_row-requires g c = (finds_journey Two c.args.id).selects

pub returns : goal.returns
returns g c = record {
  queries = λ v. is_read_at (finds_journey v c.args.id) (λ found. found) c.first_row.ensures.quiet c.in_ok-row.row
      c.first_journey.result _ c.in_ok-row.ensures.row (search (rules, pos_is))
      c.first_journey.ensures.shown c.first_journey.ensures.reason;
}

pub returns-in_err-row : goal.returns-in_err-row
returns-in_err-row g c = record {
  queries = λ v. not_asked_at (finds_journey v c.args.id) (λ found. found) c.first_row.ensures.quiet _
      c.in_err-row.ensures.reason (search (rules, pos_is)) (search rules);
}
