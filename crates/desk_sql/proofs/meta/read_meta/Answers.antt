-- The row that is read is that of meta.
use Rattle.std.proofs.Common.{refl, rules}
use Rattle.desk_sql.specs.declared.versions.Version.TheVariants.{Two}
use Rattle.desk_sql.proofs.Asking.{is_read_at, not_asked_at}
use Rattle.desk_sql.proofs.DeskQueries.{finds_meta}
use Rattle.desk_sql.proofs.meta.read_meta.Goals as goal

pub first_row-requires : goal.first_row-requires
first_row-requires g c = (finds_meta Two).selects

pub returns : goal.returns
returns g c = record {
  queries = λ v. is_read_at (finds_meta v) (λ m. m) c.first_row.ensures.quiet c.in_ok-row.row c.meta_of.result _ c.in_ok-row.ensures.row refl
      c.meta_of.ensures.shown c.meta_of.ensures.reason;
}

pub returns-in_err-row : goal.returns-in_err-row
returns-in_err-row g c = record {
  queries = λ v. not_asked_at (finds_meta v) (λ m. m) c.first_row.ensures.quiet _ c.in_err-row.ensures.reason refl (search rules);
}
