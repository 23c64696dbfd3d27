-- CREATE TABLE beside tables that have rows: those stay, and the new table is empty.
use Rattle.std.proofs.Common.{◌≡◌, ℕ, List, [], true, false, if◌then◌else◌, None, Ok, Err, Result, OnOk, IsTrue, refl, sym, ap, subst, ◌∙◌, rules, arith}
use Rattle.std.specs.List.{AllByRecursion}
use Rattle.sqlite.specs.Table.{Table}
use Rattle.sqlite_schema.specs.declared.schema.Schema.{Schema}
use Rattle.sqlite.specs.Command.TheVariants.{CreateTable}
use Rattle.sqlite.specs.Compile.{table_defined_by}
use Rattle.sqlite.specs.Change.{created, next_tree}
use Rattle.sqlite.specs.Does.{Tally, lacks_sequence}
use Rattle.sqlite.specs.declared.error.Error.{Error}
use Rattle.sqlite.specs.Effect.{Database, IsDatabase}
use Rattle.sqlite.specs.Order.{Row}
use Rattle.sqlite.specs.Tree.{Trees}
use Rattle.sqlite.specs.Listing.{understood}
use Rattle.sqlite.specs.State.{State, Writes, ExecutesInside, Shows as ShowsNow}
use Rattle.sqlite.proofs.Callers.{IsPlain, command_of, statement_of, runs_as}
use Rattle.sqlite_tied.specs.Compute.{everything}
use Rattle.desk_sql.specs.Lists.{IsTableOf, IsNumbered}
use Rattle.desk_sql.specs.Rows.{Tables, EntryRow, MarkRow, entry_row, mark_columns}
use Rattle.desk_sql.specs.Schema.{seven_schema, desk_schema, entry2_at, mark_at}
use Rattle.desk_sql.specs.Texts.{entry2_text, mark_text}
use Rattle.desk_sql.proofs.Making.{schema_8}
use Rattle.desk_sql.proofs.Writing.{went, same_value}
use Rattle.tables.specs.Copying.{MayAdd, HasCopied}
use Rattle.tables.proofs.Ranges.{items_below-zero}

-- each of these tables has the rows that it had
abbrev KeepsRows : List Table → Trees → Trees → Type 0
KeepsRows tables old new = AllByRecursion (λ t. new t.tree ≡ old t.tree) tables

-- the transaction was open and continues, with one more table, which is empty, and the rows of the others as they were
pub record Adds (old new : State) (before : Schema) (table : Table) : Type 0 where
  pub was_open : IsTrue old.is_open
  pub is_open : IsTrue new.is_open
  pub inside : IsTrue new.in_transaction
  pub schema : new.now.schema ≡ created before table
  pub sound : IsDatabase new.now
  pub empty : new.now.trees (next_tree before) ≡ []
  pub others : KeepsRows before.tables old.now.trees new.now.trees

adds : (sql : List ℕ) (old new : State) (before : Schema) (table : Table) (r : Result ℕ Error)
    → command_of (understood before sql) ≡ CreateTable → IsPlain (understood before sql) → statement_of sql (understood before sql) ≡ sql
    → table_defined_by sql ≡ Ok table → lacks_sequence (created before table) ≡ false
    → IsTrue old.in_transaction → (IsTrue old.is_open → old.now.schema ≡ before)
    → ExecutesInside 0 sql [] old new r → OnOk r (Adds old new before table)
adds sql old new before table (Err e) is plain whole defined uncounted within may h = tt
adds sql old new before table (Ok count) is plain whole defined uncounted within may h =
    let start = may h.1.was_open in
    let w = subst (λ t. Writes old new None CreateTable t [] count) whole (runs_as sql [] old new before start CreateTable is plain count h.0) in
    let all = went w.changed in
    let first = went all.1 in
    let made = first.1 in
    let both : Ok made.table ≡ Ok table = sym made.defined ∙ defined in
    let same : made.table ≡ table = same_value both in
    let schema : first.0.schema ≡ created before table = made.is ∙ ap (λ s. created s made.table) start ∙ ap (created before) same in
    let plainly : lacks_sequence first.0.schema ≡ false = ap lacks_sequence schema ∙ uncounted in
    let now : new.now ≡ first.0 = ap (λ (p : Tally × Database). p.1) (same_value all.2) ∙ same_value (rw plainly at first.2) in
    let shown : ShowsNow old new new.now old.committed true
    = subst (λ b. ShowsNow old new new.now (if b then old.committed else new.now) b) within w.shown in
    let empty : first.0.trees (next_tree before) ≡ [] = subst (λ s. first.0.trees (next_tree s) ≡ []) start made.empty in
    let others : KeepsRows before.tables old.now.trees first.0.trees
    = subst (λ (s : Schema). KeepsRows s.tables old.now.trees first.0.trees) start made.others in
    record {
      was_open = shown.was_open;
      is_open = shown.is_open;
      inside = shown.mode;
      schema = ap (λ (d : Database). d.schema) now ∙ schema;
      sound = w.sound;
      empty = subst (λ (d : Database). d.trees (next_tree before) ≡ []) (sym now) empty;
      others = subst (λ (d : Database). KeepsRows before.tables old.now.trees d.trees) (sym now) others;
    }

-- entry2 is added to the seven tables
pub adds_entry2 : (old new : State) (t : Tables) (r : Result ℕ Error) → MayAdd old t → ExecutesInside 0 entry2_text [] old new r
    → OnOk r (Adds old new seven_schema (entry2_at 0))
unfolding understood everything
adds_entry2 old new t r may =
    adds entry2_text old new seven_schema (entry2_at 0) r refl (refl, refl) refl refl refl may.inside (λ here. (may.sees here).schema.is)

-- mark is added after entry2
pub adds_mark : (old mid new : State) (r : Result ℕ Error) → Adds old mid seven_schema (entry2_at 0) → ExecutesInside 0 mark_text [] mid new r
    → OnOk r (Adds mid new schema_8 (mark_at 0))
unfolding understood everything
adds_mark old mid new r one =
    adds mark_text mid new schema_8 (mark_at 0) r refl (refl, refl) refl refl refl one.inside (λ _. one.schema)

-- the trees of entry2 and mark
at_13 : next_tree seven_schema ≡ 13
unfolding everything
at_13 = refl

at_14 : next_tree schema_8 ≡ 14
unfolding everything
at_14 = refl

desk_is : created schema_8 (mark_at 0) ≡ desk_schema
unfolding everything
desk_is = refl

no_marks : (rows : List Row) → rows ≡ [] → (marks : List MarkRow) → marks ≡ [] → IsTableOf mark_columns rows marks
no_marks rows none marks unmarked = search (rules, arith)

no_items : (rows : List Row) → rows ≡ [] → (items : List EntryRow) → items ≡ [] → IsNumbered (λ (e : EntryRow). e.num) entry_row rows items
no_items rows none items uncopied = search (rules, arith)

-- after both statements the seven tables are as they were, and no item is copied
pub has_added : (a b c : State) (t : Tables) → MayAdd a t → Adds a b seven_schema (entry2_at 0) → Adds b c schema_8 (mark_at 0) → HasCopied 0 c t
has_added a b c t may one two = search (rules, arith, at_13, at_14, desk_is, no_items, items_below-zero, no_marks)
