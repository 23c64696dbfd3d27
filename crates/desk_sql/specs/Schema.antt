-- The tables of the desk, and the schemas in which they are created step by step.
use Rattle.std.specs.Prelude.{◌≡◌, ℕ, pos, List, [], ◌∷◌, ◌++◌, codes, true, false, Some, None}
use Rattle.std.specs.List.{AllByRecursion}
use Rattle.sqlite_value.specs.declared.keys.Collation.TheVariants.{Binary}
use Rattle.sqlite_value.specs.declared.keys.Order.{Order}
use Rattle.sqlite_value.specs.declared.value.Value.TheVariants.{Null, Int}
use Rattle.sqlite_sql.specs.Term.{Term, lit, col, op2}
use Rattle.sqlite_sql.specs.declared.ops.BinaryOp.TheVariants.{Compare, And, Or}
use Rattle.sqlite_sql.specs.declared.ops.CompareOp.TheVariants.{Eq, Le, Ge}
use Rattle.sqlite_schema.specs.declared.schema.Kind.{Kind}
use Rattle.sqlite_schema.specs.declared.schema.Kind.TheVariants.{Integer, Text, Blob}
use Rattle.sqlite_schema.specs.declared.schema.Action.TheVariants.{NoAction}
use Rattle.sqlite_schema.specs.declared.schema.Column.{Column}
use Rattle.sqlite_schema.specs.declared.schema.Reference.{Reference}
use Rattle.sqlite_schema.specs.declared.schema.Table.{Table}
use Rattle.sqlite_schema.specs.declared.schema.Index.{Index}
use Rattle.sqlite_schema.specs.declared.schema.Schema.{Schema}
use Rattle.sqlite_rules.specs.Lists.{Has}
use Rattle.desk_sql.specs.declared.versions.Version.{Version}
use Rattle.desk_sql.specs.declared.versions.Version.TheVariants.{One, Two}

-- a column of this kind that is never NULL
abbrev pub filled : Kind → List ℕ → Column
filled kind name =
    record { name = name; kind = kind; is_strict = true; not_null = true; default = Null; collation = Binary }

-- a column that is the rowid
abbrev pub rowid_column : List ℕ → Column
rowid_column name =
    record { name = name; kind = Integer; is_strict = true; not_null = false; default = Null; collation = Binary }

-- ascending in each column
abbrev pub plain_order : Order
plain_order = record { digits = 0 }

-- the column is at least, or at most, the value of the term
abbrev pub at_least : ℕ → Term → Term
at_least at low = op2 (Compare Ge Binary) (col 1 at) low

abbrev pub at_most : ℕ → Term → Term
at_most at high = op2 (Compare Le Binary) (col 1 at) high

-- a number in a text
abbrev pub number : ℕ → Term
number n = lit (Int (pos n))

-- the column is between two numbers, both included
abbrev pub between : ℕ → ℕ → ℕ → Term
between at low high = op2 And (at_least at (number low)) (at_most at (number high))

-- the column is this number
abbrev pub equals : ℕ → ℕ → Term
equals at n = op2 (Compare Eq Binary) (col 1 at) (number n)

-- the column is 0 or 1
abbrev pub zero_or_one : ℕ → Term
zero_or_one at = op2 Or (equals at 0) (equals at 1)

-- the column names a journey
abbrev pub to_journey : ℕ → Reference
to_journey at = record {
  columns = at ∷ [];
  parent = codes "journey";
  parent_columns = codes "id" ∷ [];
  on_delete = NoAction;
  on_update = NoAction;
  is_deferred = false;
}

-- a table with these columns and no constraint
abbrev pub table_with : List ℕ → ℕ → List Column → Table
table_with name tree columns = record {
  name = name;
  tree = tree;
  columns = columns;
  key = None;
  primary = [];
  uniques = [];
  orders = [];
  checks = [];
  references = [];
  computed = [];
  stamps = record { places = []; terms = []; formats = [] };
  is_counted = false;
}

-- the table, with a key of some of its columns
abbrev pub keyed_by : List ℕ → Table → Table
keyed_by key t = record t { primary = key; uniques = key ∷ []; orders = plain_order ∷ [] }

-- the table, with its first column as its rowid
abbrev pub numbered : Table → Table
numbered t = record t { key = Some 0; primary = 0 ∷ [] }

-- the one row of numbers
abbrev pub meta_at : ℕ → Table
meta_at tree = record (numbered (table_with (codes "meta") tree (
    rowid_column (codes "one") ∷ filled Integer (codes "version") ∷ filled Integer (codes "events")
    ∷ filled Integer (codes "journeys") ∷ []))) { checks = equals 0 1 ∷ [] }

-- the places of each cell
abbrev pub stock_at : ℕ → Table
stock_at tree = record (keyed_by (1 ∷ 2 ∷ 3 ∷ 4 ∷ []) (table_with (codes "stock") tree (
    filled Integer (codes "kind") ∷ filled Text (codes "supplier") ∷ filled Text (codes "product")
    ∷ filled Integer (codes "night") ∷ filled Integer (codes "allot")
    ∷ filled Integer (codes "free") ∷ [])))
    { checks = between 1 0 3 ∷ op2 And (at_least 6 (number 0)) (at_most 6 (col 1 5)) ∷ [] }

-- the batches that were loaded
abbrev pub batch_at : ℕ → Table
batch_at tree = record (keyed_by (1 ∷ []) (table_with (codes "batch") tree (
    filled Text (codes "name") ∷ filled Integer (codes "num") ∷ filled Blob (codes "content") ∷ [])))
    { uniques = (1 ∷ []) ∷ (2 ∷ []) ∷ []; orders = plain_order ∷ plain_order ∷ [] }

-- the journeys, each with its cursor
abbrev pub journey_at : ℕ → Table
journey_at tree = record (numbered (table_with (codes "journey") tree (
    rowid_column (codes "id") ∷ filled Integer (codes "num") ∷ filled Text (codes "agent")
    ∷ filled Integer (codes "steps") ∷ filled Integer (codes "tries") ∷ filled Integer (codes "pos")
    ∷ filled Integer (codes "phase") ∷ filled Integer (codes "target")
    ∷ filled Integer (codes "used") ∷ [])))
    { uniques = (2 ∷ []) ∷ []; orders = plain_order ∷ []; checks = between 7 0 3 ∷ [] }

-- the options of each step of each plan
abbrev pub step_at : ℕ → Table
step_at tree = record (keyed_by (1 ∷ 2 ∷ 3 ∷ []) (table_with (codes "step") tree (
    filled Integer (codes "journey") ∷ filled Integer (codes "place") ∷ filled Integer (codes "opt")
    ∷ filled Integer (codes "save") ∷ filled Integer (codes "taken") ∷ filled Integer (codes "kind")
    ∷ filled Text (codes "supplier") ∷ filled Text (codes "product") ∷ filled Integer (codes "night")
    ∷ filled Integer (codes "nights") ∷ filled Integer (codes "places") ∷ [])))
    { checks = zero_or_one 4 ∷ zero_or_one 5 ∷ []; references = to_journey 1 ∷ [] }

-- a table of items, each under the number of its event; the kinds of items go up to the last
abbrev pub items_at : List ℕ → ℕ → ℕ → Table
items_at name last tree = record (numbered (table_with name tree (
    rowid_column (codes "num") ∷ filled Integer (codes "journey") ∷ filled Integer (codes "item")
    ∷ filled Integer (codes "a") ∷ filled Integer (codes "b") ∷ [])))
    { checks = between 3 0 last ∷ []; references = to_journey 2 ∷ [] }

-- the items of old files
abbrev pub entry_at : ℕ → Table
entry_at tree = items_at (codes "entry") 2 tree

-- the items
abbrev pub entry2_at : ℕ → Table
entry2_at tree = items_at (codes "entry2") 3 tree

-- the replies that are kept under an agent's key
abbrev pub answer_at : ℕ → Table
answer_at tree = keyed_by (1 ∷ 2 ∷ []) (table_with (codes "answer") tree (
    filled Text (codes "agent") ∷ filled Text (codes "mark") ∷ filled Blob (codes "ask")
    ∷ filled Text (codes "reply") ∷ []))

-- the save-points that were taken at run time
abbrev pub mark_at : ℕ → Table
mark_at tree = record (keyed_by (1 ∷ 2 ∷ []) (table_with (codes "mark") tree (
    filled Integer (codes "journey") ∷ filled Integer (codes "pos") ∷ []))) { references = to_journey 1 ∷ [] }

-- the index of a key
abbrev pub unique_index : List ℕ → ℕ → ℕ → List ℕ → Index
unique_index name tree table columns =
    record { name = name; tree = tree; table = table; columns = columns; order = plain_order; is_unique = true }

-- a store without tables
abbrev pub no_schema : Schema
no_schema = record { tables = []; indexes = []; views = [] }

-- the first four tables, at 0, 1, 3 and 6, each followed by the indexes of its keys
abbrev pub first_schema : Schema
first_schema = record {
  tables = meta_at 0 ∷ stock_at 1 ∷ batch_at 3 ∷ journey_at 6 ∷ [];
  indexes = unique_index (codes "sqlite_autoindex_stock_1") 2 1 (1 ∷ 2 ∷ 3 ∷ 4 ∷ [])
      ∷ unique_index (codes "sqlite_autoindex_batch_1") 4 3 (1 ∷ [])
      ∷ unique_index (codes "sqlite_autoindex_batch_2") 5 3 (2 ∷ [])
      ∷ unique_index (codes "sqlite_autoindex_journey_1") 7 6 (2 ∷ []) ∷ [];
  views = [];
}

-- the seven tables of old files: three more, at 8, 10 and 11
abbrev pub seven_schema : Schema
seven_schema = record {
  tables = first_schema.tables ++ step_at 8 ∷ entry_at 10 ∷ answer_at 11 ∷ [];
  indexes = first_schema.indexes ++ unique_index (codes "sqlite_autoindex_step_1") 9 8 (1 ∷ 2 ∷ 3 ∷ [])
      ∷ unique_index (codes "sqlite_autoindex_answer_1") 12 11 (1 ∷ 2 ∷ []) ∷ [];
  views = [];
}

-- all nine tables: two more, at 13 and 14
abbrev pub desk_schema : Schema
desk_schema = record {
  tables = seven_schema.tables ++ entry2_at 13 ∷ mark_at 14 ∷ [];
  indexes = seven_schema.indexes ++ unique_index (codes "sqlite_autoindex_mark_1") 15 14 (1 ∷ 2 ∷ []) ∷ [];
  views = [];
}

-- Indexes that a file of the newest version may have beside those of its keys.

-- the trees and the columns that they may be on: the agents of the journeys with their numbers, and the journeys of the items with
-- theirs
abbrev pub index_places : List (ℕ × List ℕ)
index_places = (6, 3 ∷ 0 ∷ []) ∷ (13, 2 ∷ 0 ∷ []) ∷ []

-- the index is no key, and is on one of these
pub record IsExtra (i : Index) : Type 0 where
  pub plain : i.is_unique ≡ false
  pub place : Has index_places (i.table, i.columns)

-- the tables of the newest version, with these indexes beside those of their keys
abbrev pub desk_with : List Index → Schema
desk_with extra = record desk_schema { indexes = desk_schema.indexes ++ extra }

-- the tables of each version, with these indexes if it may have any
abbrev pub schema_with : Version → List Index → Schema
schema_with One extra = seven_schema
schema_with Two extra = desk_with extra

-- the schema is that of this version, whatever indexes it has beside those of its keys
pub record IsSchemaOf (v : Version) (schema : Schema) : Type 0 where
  pub extra : List Index
  pub are : AllByRecursion IsExtra extra
  pub is : schema ≡ schema_with v extra
