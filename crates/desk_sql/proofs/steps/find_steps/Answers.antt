-- The options that are read of the rows are the query's answer.
use Rattle.std.proofs.Common.{rules}
use Rattle.desk_sql.specs.declared.versions.Version.TheVariants.{Two}
use Rattle.desk_sql.proofs.Asking.{is_read_at, not_asked_at}
use Rattle.desk_sql.proofs.Listings.{finds_steps}
use Rattle.desk_sql.proofs.Writing.{pos_is}
use Rattle.desk_sql.proofs.steps.find_steps.Goals as goal

pub all_rows-requires : goal.all_rows-requires
all_rows-requires g c = (finds_steps Two c.args.journey).selects

pub returns : goal.returns
returns g c = record {
  queries = λ v. is_read_at (finds_steps v c.args.journey) (λ all. all.items) c.all_rows.ensures.quiet c.in_ok-rows.rows.items
      c.read_steps.result _ c.in_ok-rows.ensures.rows (search (rules, pos_is))
      (simp c.as_slice.ensures.value at c.read_steps.ensures.shown) (simp c.as_slice.ensures.value at c.read_steps.ensures.reason);
}

pub returns-in_err-rows : goal.returns-in_err-rows
returns-in_err-rows g c = record {
  queries = λ v. not_asked_at (finds_steps v c.args.journey) (λ all. all.items) c.all_rows.ensures.quiet _
      c.in_err-rows.ensures.reason (search (rules, pos_is)) (search rules);
}
