-- The statement that only migration runs, and its meaning under the newest schema.
use Rattle.std.specs.Prelude.{ℕ, List, [], ◌∷◌, codes}
use Rattle.sqlite.specs.declared.types.Value.TheVariants.{Null}
use Rattle.sqlite.specs.Term.{lit, col, op2}
use Rattle.sqlite.specs.Query.{Query}
use Rattle.sqlite.specs.Command.{Command}
use Rattle.sqlite.specs.Command.TheVariants.{Insert}
use Rattle.sqlite.specs.Source.TheVariants as source
use Rattle.sqlite_value.specs.declared.keys.Collation.TheVariants.{Binary}
use Rattle.sqlite_sql.specs.declared.ops.BinaryOp.TheVariants.{Compare}
use Rattle.sqlite_sql.specs.declared.ops.CompareOp.TheVariants.{Ge, Le}
use Rattle.desk_sql.specs.Meanings.{sorted_rows, rising}

-- the text that copies the items of a range of numbers
abbrev pub copy_items_text : List ℕ
copy_items_text = codes "INSERT INTO entry2 SELECT num, journey, item, a, b FROM entry WHERE num BETWEEN ?1 AND ?2 ORDER BY num"

-- the rows of entry in the range, in the order of their numbers, each under its own number
abbrev pub range_query : Query
range_query =
    sorted_rows 10 (op2 (Compare Ge Binary) (col 1 0) (col 0 0) ∷ op2 (Compare Le Binary) (col 1 0) (col 0 1) ∷ [])
    (col 1 0 ∷ lit Null ∷ col 1 2 ∷ col 1 3 ∷ col 1 4 ∷ col 1 5 ∷ []) ((col 1 0, rising) ∷ [])

-- the same query in the command; collations matter for DISTINCT only, which it has not
abbrev pub copy_items_query : Query
copy_items_query = record range_query { collations = Binary ∷ Binary ∷ Binary ∷ Binary ∷ Binary ∷ Binary ∷ [] }

-- the command inserts these rows into entry2
abbrev pub copy_items_command : Command
copy_items_command = Insert 7 (source.Query (record { lets = []; body = copy_items_query }))
