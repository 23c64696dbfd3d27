-- The meaning of the text of each statement under the desk's schema.
use Rattle.std.specs.Prelude.{ℕ, pos, negsuc, List, [], ◌∷◌, Some, None, codes, false}
use Rattle.sqlite.specs.declared.types.Value.TheVariants.{Null, Int}
use Rattle.sqlite.specs.Term.{Term, lit, col, op2}
use Rattle.sqlite.specs.Query.{Query, inner, end}
use Rattle.sqlite_value.specs.declared.keys.Key.{Key}
use Rattle.sqlite_value.specs.declared.keys.Collation.TheVariants.{Binary}
use Rattle.sqlite_sql.specs.declared.ops.BinaryOp.TheVariants.{Compare, Arith}
use Rattle.sqlite_sql.specs.declared.ops.ArithOp.TheVariants.{Sub}
use Rattle.sqlite_sql.specs.declared.ops.CompareOp.TheVariants.{Eq, Gt, Ge, Le}
use Rattle.sqlite.specs.Command.{Command}
use Rattle.sqlite.specs.Command.TheVariants.{InsertOr, Select, Update, Delete}
use Rattle.sqlite.specs.Source.TheVariants.{Values}
use Rattle.sqlite_schema.specs.declared.command.Conflict.TheVariants.{Abort}
use Rattle.desk_sql.specs.declared.versions.Version.{Version}
use Rattle.desk_sql.specs.declared.versions.Version.TheVariants.{Two}
use Rattle.desk_sql.specs.Rows.{items_tree}

-- the rows of a tree that pass the tests, in the order of the terms
abbrev pub sorted_rows : ℕ → List Term → List Term → List (Term × Key) → Query
sorted_rows tree filter project order = record {
  from = inner tree end;
  filter = filter;
  group = None;
  project = project;
  distinct = false;
  collations = [];
  order = order;
  limit = lit (Int (negsuc 0));
  offset = lit (Int (pos 0));
}

-- ascending in one column of ORDER BY
abbrev pub rising : Key
rising = record { collation = Binary; descending = false }

-- the rows of a tree that pass the tests, in any order
abbrev pub every_row : ℕ → List Term → List Term → Query
every_row tree filter project = sorted_rows tree filter project []

-- the two terms are equal
abbrev pub is_equal : Term → Term → Term
is_equal a b = op2 (Compare Eq Binary) a b

-- a query alone
abbrev pub select : Query → List (List ℕ) → Command
select query names = Select (record { lets = []; body = query }) names

-- the rows that a query names are replaced by those that it shows
abbrev pub update : ℕ → Query → Command
update at query = Update at (record { lets = []; body = query })

-- the row of meta
abbrev pub insert_meta_terms : List Term
insert_meta_terms = lit (Int (pos 1)) ∷ lit Null ∷ col 0 0 ∷ lit (Int (pos 0)) ∷ lit (Int (pos 0)) ∷ []

abbrev pub update_meta_query : Query
update_meta_query =
    every_row 0 (is_equal (col 1 0) (lit (Int (pos 1))) ∷ []) (col 1 0 ∷ col 1 0 ∷ lit Null ∷ col 0 0 ∷ col 0 1 ∷ col 0 2 ∷ [])

abbrev pub read_meta_query : Query
read_meta_query = every_row 0 (is_equal (col 1 0) (lit (Int (pos 1))) ∷ []) (col 1 2 ∷ col 1 3 ∷ col 1 4 ∷ [])

abbrev pub read_meta_names : List (List ℕ)
read_meta_names = codes "version" ∷ codes "events" ∷ codes "journeys" ∷ []

-- cells
abbrev pub in_range : ℕ → ℕ → List Term
in_range first last =
    is_equal (col 1 1) (col 0 0) ∷ is_equal (col 1 2) (col 0 1) ∷ is_equal (col 1 3) (col 0 2)
    ∷ op2 (Compare Ge Binary) (col 1 4) (col 0 first) ∷ op2 (Compare Le Binary) (col 1 4) (col 0 last) ∷ []

abbrev pub find_nights_query : Query
find_nights_query = sorted_rows 1 (in_range 3 4) (col 1 4 ∷ col 1 5 ∷ col 1 6 ∷ []) ((col 1 4, rising) ∷ [])

abbrev pub find_nights_names : List (List ℕ)
find_nights_names = codes "night" ∷ codes "allot" ∷ codes "free" ∷ []

abbrev pub find_stock_query : Query
find_stock_query =
    sorted_rows 1 [] (col 1 1 ∷ col 1 2 ∷ col 1 3 ∷ col 1 4 ∷ col 1 5 ∷ col 1 6 ∷ [])
    ((col 1 1, rising) ∷ (col 1 2, rising) ∷ (col 1 3, rising) ∷ (col 1 4, rising) ∷ [])

abbrev pub find_stock_names : List (List ℕ)
find_stock_names =
    codes "kind" ∷ codes "supplier" ∷ codes "product" ∷ codes "night" ∷ codes "allot" ∷ codes "free" ∷ []

-- journeys
abbrev pub insert_journey_terms : List Term
insert_journey_terms =
    col 0 0 ∷ lit Null ∷ col 0 1 ∷ col 0 2 ∷ col 0 3 ∷ col 0 4 ∷ col 0 5 ∷ col 0 6 ∷ col 0 7 ∷ col 0 8 ∷ []

abbrev pub journey_project : List Term
journey_project =
    col 1 0 ∷ col 1 2 ∷ col 1 3 ∷ col 1 4 ∷ col 1 5 ∷ col 1 6 ∷ col 1 7 ∷ col 1 8 ∷ col 1 9 ∷ []

abbrev pub journey_names : List (List ℕ)
journey_names =
    codes "id" ∷ codes "num" ∷ codes "agent" ∷ codes "steps" ∷ codes "tries" ∷ codes "pos" ∷ codes "phase" ∷ codes "target"
    ∷ codes "used" ∷ []

abbrev pub find_journey_query : Query
find_journey_query = every_row 6 (is_equal (col 1 0) (col 0 0) ∷ []) journey_project

abbrev pub first_unfinished_query : Query
first_unfinished_query =
    sorted_rows 6 (op2 (Compare Gt Binary) (col 1 0) (col 0 0) ∷ op2 (Compare Le Binary) (col 1 7) (lit (Int (pos 1))) ∷ [])
    journey_project ((col 1 0, rising) ∷ [])

-- options of steps
abbrev pub insert_step_terms : List Term
insert_step_terms =
    lit Null ∷ col 0 0 ∷ col 0 1 ∷ col 0 2 ∷ col 0 3 ∷ lit (Int (pos 0)) ∷ col 0 4 ∷ col 0 5 ∷ col 0 6 ∷ col 0 7 ∷ col 0 8
    ∷ col 0 9 ∷ []

abbrev pub find_steps_query : Query
find_steps_query =
    sorted_rows 8 (is_equal (col 1 1) (col 0 0) ∷ [])
    (col 1 2 ∷ col 1 3 ∷ col 1 4 ∷ col 1 5 ∷ col 1 6 ∷ col 1 7 ∷ col 1 8 ∷ col 1 9 ∷ col 1 10 ∷ col 1 11 ∷ [])
    ((col 1 2, rising) ∷ (col 1 3, rising) ∷ [])

abbrev pub find_options_query : Query
find_options_query =
    sorted_rows 8 (is_equal (col 1 1) (col 0 0) ∷ is_equal (col 1 2) (col 0 1) ∷ [])
    (col 1 2 ∷ col 1 3 ∷ col 1 4 ∷ col 1 5 ∷ col 1 6 ∷ col 1 7 ∷ col 1 8 ∷ col 1 9 ∷ col 1 10 ∷ col 1 11 ∷ [])
    ((col 1 2, rising) ∷ (col 1 3, rising) ∷ [])

abbrev pub find_steps_names : List (List ℕ)
find_steps_names =
    codes "place" ∷ codes "opt" ∷ codes "save" ∷ codes "taken" ∷ codes "kind" ∷ codes "supplier" ∷ codes "product"
    ∷ codes "night" ∷ codes "nights" ∷ codes "places" ∷ []

-- items
abbrev pub find_items_in : Version → Query
find_items_in v =
    sorted_rows (items_tree v) (is_equal (col 1 2) (col 0 0) ∷ op2 (Compare Gt Binary) (col 1 0) (col 0 1) ∷ [])
    (col 1 0 ∷ col 1 3 ∷ col 1 4 ∷ col 1 5 ∷ []) ((col 1 0, rising) ∷ [])

abbrev pub find_items_query : Query
find_items_query = find_items_in Two

abbrev pub find_items_names : List (List ℕ)
find_items_names = codes "num" ∷ codes "item" ∷ codes "a" ∷ codes "b" ∷ []

-- save-points of run time
abbrev pub find_marks_query : Query
find_marks_query = sorted_rows 14 (is_equal (col 1 1) (col 0 0) ∷ []) (col 1 2 ∷ []) ((col 1 2, rising) ∷ [])

abbrev pub find_marks_names : List (List ℕ)
find_marks_names = codes "pos" ∷ []

-- kept replies
abbrev pub insert_answer_terms : List Term
insert_answer_terms = lit Null ∷ col 0 0 ∷ col 0 1 ∷ col 0 2 ∷ col 0 3 ∷ []

abbrev pub find_answer_query : Query
find_answer_query =
    every_row 11 (is_equal (col 1 1) (col 0 0) ∷ is_equal (col 1 2) (col 0 1) ∷ []) (col 1 3 ∷ col 1 4 ∷ [])

abbrev pub find_answer_names : List (List ℕ)
find_answer_names = codes "ask" ∷ codes "reply" ∷ []

-- changes of journeys, of options and of cells
abbrev pub move_journey_query : Query
move_journey_query =
    every_row 6 (is_equal (col 1 0) (col 0 0) ∷ [])
    (col 1 0 ∷ col 1 0 ∷ lit Null ∷ col 1 2 ∷ col 1 3 ∷ col 1 4 ∷ col 1 5 ∷ col 0 1 ∷ col 0 2 ∷ col 0 3 ∷ col 0 4 ∷ [])

abbrev pub mark_step_query : Query
mark_step_query =
    every_row 8 (is_equal (col 1 1) (col 0 0) ∷ is_equal (col 1 2) (col 0 1) ∷ is_equal (col 1 3) (col 0 2) ∷ [])
    (col 1 0 ∷ col 1 0 ∷ col 1 1 ∷ col 1 2 ∷ col 1 3 ∷ col 1 4 ∷ col 0 3 ∷ col 1 6 ∷ col 1 7 ∷ col 1 8 ∷ col 1 9 ∷ col 1 10 ∷ col 1 11 ∷ [])

abbrev pub shift_nights_query : Query
shift_nights_query =
    every_row 1 (in_range 4 5)
    (col 1 0 ∷ col 1 0 ∷ col 1 1 ∷ col 1 2 ∷ col 1 3 ∷ col 1 4 ∷ col 1 5 ∷ op2 (Arith Sub) (col 1 6) (col 0 3) ∷ [])

-- items
abbrev pub insert_item_terms : List Term
insert_item_terms = col 0 0 ∷ lit Null ∷ col 0 1 ∷ col 0 2 ∷ col 0 3 ∷ col 0 4 ∷ []

-- batches
abbrev pub insert_batch_terms : List Term
insert_batch_terms = lit Null ∷ col 0 0 ∷ col 0 1 ∷ col 0 2 ∷ []

abbrev pub find_batch_query : Query
find_batch_query = every_row 3 (is_equal (col 1 1) (col 0 0) ∷ []) (col 1 2 ∷ col 1 3 ∷ [])

abbrev pub find_batch_names : List (List ℕ)
find_batch_names = codes "num" ∷ codes "content" ∷ []

-- save-points of run time
abbrev pub insert_mark_terms : List Term
insert_mark_terms = lit Null ∷ col 0 0 ∷ col 0 1 ∷ []

abbrev pub delete_mark_query : Query
delete_mark_query =
    every_row 14 (is_equal (col 1 1) (col 0 0) ∷ is_equal (col 1 2) (col 0 1) ∷ []) (col 1 0 ∷ [])

-- the rows that a query names are deleted
abbrev pub delete : ℕ → Query → Command
delete at query = Delete at (record { lets = []; body = query })

-- the upsert of a cell
abbrev pub put_cell_query : Query
put_cell_query =
    every_row 1 (is_equal (col 1 0) (col 0 6) ∷ [])
    (col 1 0 ∷ col 1 0 ∷ col 1 1 ∷ col 1 2 ∷ col 1 3 ∷ col 1 4 ∷ col 0 12 ∷ col 0 13 ∷ [])

abbrev pub put_cell_terms : List Term
put_cell_terms = lit Null ∷ col 0 0 ∷ col 0 1 ∷ col 0 2 ∷ col 0 3 ∷ col 0 4 ∷ col 0 5 ∷ []

abbrev pub put_cell : Command
put_cell = InsertOr 1 Abort (Values put_cell_terms 7)
    (record { target = Some (1 ∷ 2 ∷ 3 ∷ 4 ∷ []); update = Some (record { lets = []; body = put_cell_query }) } ∷ [])
