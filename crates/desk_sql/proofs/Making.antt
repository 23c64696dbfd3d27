-- The effect of a text that creates a table, where no table has a row. For CreateReasons and `make_tables`.
use Rattle.std.proofs.Common.{◌≡◌, ℕ, List, [], ◌∷◌, ◌++◌, true, false, if◌then◌else◌, None, Ok, Err, Result, OnOk, sym, ap, subst, ◌∙◌, refl, arith, rules}
use Rattle.std.specs.List.{AllByRecursion}
use Rattle.sqlite.specs.Table.{Table}
use Rattle.sqlite_schema.specs.declared.schema.Schema.{Schema}
use Rattle.sqlite.specs.Command.TheVariants.{CreateTable}
use Rattle.sqlite.specs.Compile.{table_defined_by}
use Rattle.sqlite.specs.Change.{created, next_tree}
use Rattle.sqlite.specs.Does.{Tally, lacks_sequence}
use Rattle.sqlite.specs.declared.error.Error.{Error}
use Rattle.sqlite.specs.Effect.{Database, IsDatabase}
use Rattle.sqlite.specs.Tree.{Trees}
use Rattle.sqlite.specs.Listing.{understood}
use Rattle.sqlite.specs.State.{State, Writes, ExecutesInside, Shows}
use Rattle.sqlite.proofs.Callers.{IsPlain, command_of, statement_of, runs_as}
use Rattle.desk_sql.specs.Calls.{MayBuild, Builds, IsEmptyWith, Sees}
use Rattle.desk_sql.proofs.Writing.{went, same_value}
use Rattle.desk_sql.specs.Schema.{entry2_at, seven_schema, desk_schema}
use Rattle.sqlite.specs.Order.{Row}
use Rattle.desk_sql.specs.Lists.{IsTableOf, IsNumbered}
use Rattle.desk_sql.specs.Rows.{no_rows}

-- The effect of CREATE TABLE, if no table has a row.

still : (tables : List Table) (table : Table) (old new : Trees) → AllByRecursion (λ t. old t.tree ≡ []) tables → AllByRecursion (λ t. new t.tree ≡ old t.tree) tables → new table.tree ≡ []
    → AllByRecursion (λ t. new t.tree ≡ []) (tables ++ table ∷ [])
still [] table old new none same empty = (empty, tt)
still (t ∷ tables) table old new none same empty = (same.0 ∙ none.0, still tables table old new none.1 same.1 empty)

pub creates : (sql : List ℕ) (old new : State) (before : Schema) (table : Table) (r : Result ℕ Error)
    → command_of (understood before sql) ≡ CreateTable → IsPlain (understood before sql) → statement_of sql (understood before sql) ≡ sql
    → table_defined_by sql ≡ Ok table → lacks_sequence (created before table) ≡ false
    → MayBuild before old → ExecutesInside 0 sql [] old new r → OnOk r (Builds old new (created before table))
creates sql old new before table (Err e) is plain whole defined uncounted start h = tt
creates sql old new before table (Ok count) is plain whole defined uncounted may h =
    let start = may.empty h.1.was_open in
    let w = subst (λ t. Writes old new None CreateTable t [] count) whole (runs_as sql [] old new before start.is CreateTable is plain count h.0) in
    let all = went w.changed in
    let first = went all.1 in
    let made = first.1 in
    let same : made.table ≡ table = same_value (sym made.defined ∙ defined) in
    let schema : first.0.schema ≡ created before table = made.is ∙ ap (λ s. created s made.table) start.is ∙ ap (created before) same in
    let plainly : lacks_sequence first.0.schema ≡ false = ap lacks_sequence schema ∙ uncounted in
    let now : new.now ≡ first.0 = ap (λ (p : Tally × Database). p.1) (same_value all.2) ∙ same_value (rw plainly at first.2) in
    let shown : Shows old new new.now old.committed true
    = subst (λ b. Shows old new new.now (if b then old.committed else new.now) b) may.inside w.shown in
    let empty : first.0.trees (next_tree before) ≡ [] = subst (λ s. first.0.trees (next_tree s) ≡ []) start.is made.empty in
    let others : AllByRecursion (λ t. first.0.trees t.tree ≡ old.now.trees t.tree) before.tables
    = subst (λ (s : Schema). AllByRecursion (λ t. first.0.trees t.tree ≡ old.now.trees t.tree) s.tables) start.is made.others in
    record {
      was_open = shown.was_open;
      is_open = shown.is_open;
      inside = shown.mode;
      made = record {
        is = ap (λ (d : Database). d.schema) now ∙ schema;
        empty = subst (λ (t : Trees). AllByRecursion (λ x. t x.tree ≡ []) (created before table).tables)
            (sym (ap (λ (d : Database). d.trees) now))
            (still before.tables (record table { tree = next_tree before }) old.now.trees first.0.trees start.empty others empty);
      };
      sound = w.sound;
      committed = shown.committed_is;
    }

-- the tables of old files, and the items
abbrev pub schema_8 : Schema
schema_8 = created seven_schema (entry2_at 0)

-- a text may build on what the text before it created
pub then_build : (a b : State) (s : Schema) → Builds a b s → MayBuild s b
then_build a b s it = record { inside = it.inside; empty = λ _. it.made }

no_rows_of : {X : Type 0} (columns : X → Row) (rows : List Row) → rows ≡ [] → IsTableOf columns rows []
no_rows_of columns rows none = record { numbered = []; values_are = refl; rows_are = none; rise = tt }

no_values_of : {X : Type 0} (number : X → ℕ) (row_of : X → Row) (rows : List Row) → rows ≡ [] → IsNumbered number row_of rows []
no_values_of number row_of rows none = record { rows_are = none; rise = tt }

-- tables without rows show no rows
pub sees_none : (s : State) → IsEmptyWith desk_schema s → IsDatabase s.now → Sees s no_rows
sees_none s it sound = search (rules, arith, no_values_of, no_rows_of)
