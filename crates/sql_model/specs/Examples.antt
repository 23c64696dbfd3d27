-- A worked example: a store without tables, which represents a new desk.
use Rattle.std.specs.Prelude.{refl}
use Rattle.std.proofs.Common.{inr}
use Rattle.sqlite_trees.specs.Sound.{is_sound_list}
use Rattle.sqlite_trees.specs.Tree.{no_trees}
use Rattle.sqlite.specs.Effect.{IsDatabase}
use Rattle.desk_sql.specs.Schema.{no_schema}
use Rattle.ledger.specs.Answer.{start}
use Rattle.sql_model.specs.Keeping.{Means}

-- trees without rows list no table
pub no_trees_are_a_database : IsDatabase (record { schema = no_schema; trees = no_trees })
unfolding is_sound_list
no_trees_are_a_database = record {
  lists = record {
    listed = record { tables = tt; indexes = tt; views = tt; owned = tt; named = tt; loads = refl };
    guarded = tt;
  };
  obeys = record { rules = λ rule. tt; indexed = tt };
}

-- so they represent a new desk
pub no_trees_are_a_new_desk : Means no_trees start
no_trees_are_a_new_desk = inr (record { of = no_trees_are_a_database; new = refl })
