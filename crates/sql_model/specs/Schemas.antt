-- When the trees of a database list one schema and no other.
use Rattle.std.specs.Prelude.{◌≡◌, []}
use Rattle.sqlite_trees.specs.Tree.{Trees}
use Rattle.sqlite_schema.specs.declared.schema.Schema.{Schema}
use Rattle.sqlite_catalog.specs.Listing.{IsSound}

-- two schemas that the same trees list are one, if the first has no views
abbrev pub OneSchema : Type 0
OneSchema = (a b : Schema) (db : Trees) → a.views ≡ [] → IsSound a db → IsSound b db → b ≡ a
