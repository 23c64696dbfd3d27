-- The law is used as it stands.
use Rattle.std.proofs.Common.{sym, subst}
use Rattle.sqlite_trees.specs.Tree.{Trees}
use Rattle.desk_sql.specs.declared.versions.Version.TheVariants.{Two}
use Rattle.ledger.specs.Answer.{start}
use Rattle.sql_model.specs.Examples.{no_trees_are_a_new_desk}
use Rattle.sql_model.specs.Keeping.{MeansOf}
use Rattle.sql_model.proofs.laws.new_desk_is_found.Goals as goal

pub returns : goal.returns
returns g c = record {
  found = c.openings.ensures.stands Two start (λ clean. record {
    opens = (c.requires.opened clean).0;
    live = (c.requires.opened clean).1;
    means = subst (λ (t : Trees). MeansOf Two t start) (sym (c.requires.empty clean)) no_trees_are_a_new_desk;
    only = c.requires.only clean;
  });
}
