-- The effect of a statement that writes on the desk's tables, by its meaning. For the lemmas of each statement.
use Rattle.std.proofs.Common.{◌≡◌, ◌≢◌, ◌<◌, ◌^◌, pos, to_z, w64, if◌then◌else◌, ◌⊎◌, inl, inr, ℕ, ◌/◌, List, [], length, slice_get, Bool, true, false, cond, Some, None, Ok, Err, Result, refl, sym, ap, subst, ◌∙◌, arith, ℤ, ◌∷◌, ◌++◌, Option, rules}
use Rattle.sqlite.specs.declared.types.Value.{Value}
use Rattle.sqlite.specs.declared.types.Value.TheVariants.{Null}
use Rattle.std.proofs.lemmas.Int.{ints}
use Rattle.sqlite.specs.Kind.TheVariants.{Integer}
use Rattle.sqlite.specs.Cast.{cast, cast_row}
use Rattle.sqlite.specs.Ops.{unary}
use Rattle.sqlite.specs.Order.{Row}
use Rattle.sqlite.specs.Term.{Term}
use Rattle.sqlite.specs.Table.{Table}
use Rattle.sqlite.specs.Tree.{Trees, rowid}
use Rattle.sqlite.specs.Source.TheVariants.{Values}
use Rattle.sqlite.specs.Command.{Command}
use Rattle.sqlite.specs.Command.TheVariants.{Insert, Update, Delete, InsertOr}
use Rattle.sqlite.specs.Edit.{Edit, edit_of, edited, taken_by, Applies, with_rowid, are_fresh, left_by}
use Rattle.sqlite.specs.Rowids.TheVariants.{Chosen, Given}
use Rattle.sqlite.specs.Query.{Query, IsAnswer}
use Rattle.sqlite.specs.Program.{overlay}
use Rattle.sqlite_rules.specs.Calls.{ids_of}
use Rattle.sqlite_schema.specs.declared.schema.Index.{Index}
use Rattle.std.specs.List.{AllByRecursion}
use Rattle.sqlite_schema.specs.declared.schema.Action.TheVariants.{NoAction}
use Rattle.sqlite_schema.specs.declared.schema.Keys.TheVariants.{Enforced}
use Rattle.sqlite_rules.specs.Action.{works}
use Rattle.sqlite.specs.Does.{Tally, Does, OnRows, WritesRows, Concludes}
use Rattle.sqlite.specs.declared.run.Mode.{Mode}
use Rattle.sqlite.specs.Rows.{Written, Task, Inserts, Edited, stamped, count_of, Puts, Clears, Upserts, Judged, Tries, TriesEach, InsertsOr, shown, nothing}
use Rattle.sqlite.specs.Effect.{Database, IsDatabase, value_rows}
use Rattle.sqlite.specs.Listing.{understood}
use Rattle.sqlite.specs.State.{State, mode_of, Executes, Shows, Writes, Runs}
use Rattle.sqlite.proofs.Callers.{statement_of, runs_as, one_step}
use Rattle.desk_sql.specs.declared.versions.Version.TheVariants.{Two}
use Rattle.desk_sql.specs.Schema.{desk_schema, desk_with, IsSchemaOf, IsExtra, stock_at}
use Rattle.desk_sql.specs.Calls.{IsReady}
use Rattle.desk_sql.proofs.Meaning.{Means}
use Rattle.sqlite_schema.specs.declared.command.Conflict.TheVariants.{Abort}
use Rattle.sqlite_schema.specs.declared.command.Upsert.{Upsert}
use Rattle.sqlite_rules.specs.Keys.{AreConflicts}
use Rattle.sqlite_rules.specs.declared.error.Refusal.{Refusal}
use Rattle.sqlite.specs.declared.error.Error.{Error}
use Rattle.desk_sql.proofs.Indexes.{are_conflicts}

-- The effect of a statement that writes on the desk's tables, by its meaning.

either : (b : Bool) (x : Value) → cond b x x ≡ x
either b x = search (rules, arith)

-- NULL is stored as it is
pub cast_null : cast Integer Null ≡ Null
unfolding unary
cast_null = either _ Null

-- an unsigned number that is passed as a signed one is the same number
pub pos_is : (n : ℕ) → n < 2 ^ 63 → to_z w64 n ≡ pos n
pos_is n low = omega (arith, ints)

-- a part that returned a value was not stopped
pub went : {B E R : Type 0} {b : B} {Stops : E → Type 0} → ((stop : E) × Stops stop × (Ok b ≡ Err stop)) ⊎ R → R
went (inl stopped) = absurd (let e = stopped.2 in cc)
went (inr on) = on

pub same_value : {B E : Type 0} {a b : B} → ◌≡◌ {A = Result B E} (Ok a) (Ok b) → a ≡ b
same_value e = cc

-- the table has the rows of the edit, and each other table is as it was; nothing is said of indexes
pub record Lands (db : Trees) (edit : Edit) (next : Trees) : Type 0 where
  pub fresh : are_fresh (left_by db edit) edit.news ≡ true
  pub rows : next edit.table.tree ≡ edited db edit
  pub tables : AllByRecursion (λ t. t.tree ≢ edit.table.tree → next t.tree ≡ db t.tree) desk_schema.tables

pub lands : (extra : List Index) (db next : Trees) (edit : Edit) → Applies (desk_with extra) Enforced db edit next → Lands db edit next
lands extra db next edit it = record { fresh = it.fresh; rows = it.rows; tables = it.tables }

-- one table was edited, and no other table
pub record Edits (old new : State) (edit : Edit) : Type 0 where
  pub schema : IsSchemaOf Two new.now.schema
  pub applies : Lands old.now.trees edit new.now.trees
  pub shown : Shows old new new.now old.committed true
  pub sound : IsDatabase new.now

abbrev pub source_edit : Table → List Term → ℕ → Row → Trees → Edit
source_edit table terms width params db = edit_of db table [] Chosen 0 (value_rows params width (length terms / width) terms)

abbrev pub task_for : List Index → State → Table → Row → Task
task_for extra old table params = record { limit = old.step_limit; keys = Enforced; schema = desk_with extra; table = table; params = params }

concludes : (task : Task) (mode : Mode) (w : Written) (tally : Tally) (after : Database) → Concludes task mode None w (Ok (tally, after)) → after ≡ record { schema = task.schema; trees = w.trees }
concludes task mode w tally after h = ap (λ (p : Tally × Database). p.1) (same_value (went (went h).2).2)

-- a statement on the rows of a table writes the rows, and nothing more
pub on_rows : (extra : List Index) (old : State) (params : Row) (text : List ℕ) (table : Table) (tally : Tally) (after : Database) (command : Command)
    → OnRows (task_for extra old table params) (mode_of old) None command old.now.trees (Ok (tally, after))
    → (w : Written) × WritesRows (task_for extra old table params) old.now.trees command (Ok w) × (after ≡ record { schema = desk_with extra; trees = w.trees })
on_rows extra old params text table tally after command h =
    let all = went h in (all.0, all.1, concludes (task_for extra old table params) (mode_of old) all.0 tally after all.2)

-- the rows of VALUES are inserted by one edit
pub insert_edits : (task : Task) (terms : List Term) (width : ℕ) (db : Trees) (w : Written) → task.table.is_counted ≡ false → stamped task.table task.params ≡ task.params
    → Inserts task (Values terms width) db (Ok w) → Edited task.schema task.keys db (source_edit task.table terms width task.params db) (Ok w.trees)
insert_edits task terms width db w uncounted unstamped h = search (rules, arith, same_value)

no_action : (b : Bool) → (if b then NoAction else NoAction) ≡ NoAction
no_action b = search (rules, arith)

-- no foreign key of the desk has an action
pub idle : (extra : List Index) (depth tree : ℕ) (olds news : List Row) → works (desk_with extra) Enforced depth tree olds news ≡ []
idle extra depth tree olds news = simp no_action

-- A statement that was run in a transaction that is ready.
module _ (text : List ℕ) (params : Row) (old new : State) (command : Command) (count : ℕ) (ready : IsReady old)
    (ran : Writes old new None command text params count) where
  abbrev extra : List Index
  extra = ready.schema.extra

  -- it did what its command says
  pub does_so : Does old.step_limit (mode_of old) params (record { schema = desk_with extra; trees = old.now.trees }) text None command (Ok (ran.tally, new.now))
  does_so = subst (λ s. Does old.step_limit (mode_of old) params (record old.now { schema = s }) text None command (Ok (ran.tally, new.now))) ready.schema.is ran.changed

  -- and left what the one edit of its rows leaves
  pub edits_so : (edit : Edit) (w : Written) → new.now ≡ record { schema = desk_with extra; trees = w.trees } → (mid : Trees) → w.trees ≡ mid
      → Edited (desk_with extra) Enforced old.now.trees edit (Ok mid) → Edits old new edit
  edits_so edit w now mid trees edited =
      let step : Applies (desk_with extra) Enforced old.now.trees edit mid
      = one_step (desk_with extra) Enforced old.now.trees mid edit (idle extra 0 edit.table.tree (taken_by old.now.trees edit) edit.news) edited in
      record {
        schema = record { extra = extra; are = ready.schema.are; is = ap (λ (d : Database). d.schema) now };
        applies = subst (λ (t : Trees). Lands old.now.trees edit t) (sym (ap (λ (d : Database). d.trees) now ∙ trees))
            (lands extra old.now.trees mid edit step);
        shown = subst (λ b. Shows old new new.now (if b then old.committed else new.now) b) ready.inside ran.shown;
        sound = ran.sound;
      }

  -- and ran on the rows of a table: what it wrote, and that its one edit was made
  pub ran_rows : (table : Table)
      → (Does old.step_limit (mode_of old) params (record { schema = desk_with extra; trees = old.now.trees }) text None command (Ok (ran.tally, new.now))
      → OnRows (task_for extra old table params) (mode_of old) None command old.now.trees (Ok (ran.tally, new.now)))
      → (w : Written) × WritesRows (task_for extra old table params) old.now.trees command (Ok w)
      × ((edit : Edit) (mid : Trees) → w.trees ≡ mid → Edited (desk_with extra) Enforced old.now.trees edit (Ok mid) → Edits old new edit)
  ran_rows table on =
      let done = on_rows extra old params text table ran.tally new.now command (on does_so) in
      (done.0, done.1, λ edit mid is edited. edits_so edit done.0 done.2 mid is edited)

-- the text of a statement that was run, and what it did
pub runs_ready : (sql : List ℕ) (params : Row) (old new : State) (command : Command) (count : ℕ) → Means sql command → (ready : IsReady old)
    → Executes sql params old new (Ok count)
    → Runs old new None command (statement_of sql (understood (desk_with ready.schema.extra) sql)) params count
runs_ready sql params old new command count means ready h = search (rules, arith, runs_as)

pub inserts : (sql : List ℕ) (params : Row) (old new : State) (at : ℕ) (table : Table) (terms : List Term) (width count : ℕ)
    → Means sql (Insert at (Values terms width))
    → slice_get desk_schema.tables at ≡ Some table → table.is_counted ≡ false → stamped table params ≡ params
    → IsReady old → Executes sql params old new (Ok count) → Edits old new (source_edit table terms width params old.now.trees)
inserts sql params old new at table terms width count means there uncounted unstamped ready h =
    let command = Insert at (Values terms width) in
    let it = ran_rows _ params old new command count ready (runs_ready sql params old new command count means ready h) table (λ did. rw there at did) in
    it.2 (source_edit table terms width params old.now.trees) it.0.trees refl
    (insert_edits (task_for ready.schema.extra old table params) terms width old.now.trees it.0 uncounted unstamped it.1)

-- an UPDATE deletes the rows that its query names, and inserts those that it shows
pub updates : (sql : List ℕ) (params : Row) (old new : State) (at : ℕ) (table : Table) (q : Query) (count : ℕ)
    → Means sql (Update at (record { lets = []; body = q })) → slice_get desk_schema.tables at ≡ Some table
    → IsReady old → Executes sql params old new (Ok count)
    → (rows : List Row) × IsAnswer q (overlay old.now.trees []) params rows × Edits old new (edit_of old.now.trees table (ids_of rows) Given 1 rows)
updates sql params old new at table q count means there ready h =
    let command = Update at (record { lets = []; body = q }) in
    let it = ran_rows _ params old new command count ready (runs_ready sql params old new command count means ready h) table (λ did. rw there at did) in
    let found = went it.1 in
    let made = went found.2 in
    let edit = edit_of old.now.trees table (ids_of found.0) Given 1 found.0 in
    (found.0, found.1.answer Null, it.2 edit made.0 (ap (λ (w : Written). w.trees) (same_value made.2)) made.1)

-- a DELETE deletes the rows that its query names
pub deletes : (sql : List ℕ) (params : Row) (old new : State) (at : ℕ) (table : Table) (q : Query) (count : ℕ)
    → Means sql (Delete at (record { lets = []; body = q })) → slice_get desk_schema.tables at ≡ Some table
    → IsReady old → Executes sql params old new (Ok count)
    → (rows : List Row) × IsAnswer q (overlay old.now.trees []) params rows × Edits old new (edit_of old.now.trees table (ids_of rows) Given 0 [])
deletes sql params old new at table q count means there ready h =
    let command = Delete at (record { lets = []; body = q }) in
    let it = ran_rows _ params old new command count ready (runs_ready sql params old new command count means ready h) table (λ did. rw there at did) in
    let found = went it.1 in
    let made = went found.2 in
    let edit = edit_of old.now.trees table (ids_of found.0) Given 0 [] in
    (found.0, found.1.answer Null, it.2 edit made.0 (ap (λ (w : Written). w.trees) (same_value made.2)) made.1)

-- The effect of an upsert on stock, for any query of its DO UPDATE.

-- the columns of the key
abbrev pub target : List ℕ
target = 1 ∷ 2 ∷ 3 ∷ 4 ∷ []

-- the existing row is replaced, under its rowid, by the row that the query shows
abbrev pub Replaces : Trees → Row → Query → Row → List Row → Edit → Type 0
Replaces db params q new found edit =
    (there : Row) × (more : List Row) × (found ≡ there ∷ more) × (rows : List Row)
    × IsAnswer q (overlay db []) (params ++ rowid there ∷ shown (stock_at 1) new) rows
    × (edit ≡ edit_of db (stock_at 1) (ids_of rows) Given 1 rows)

-- the row is inserted, or replaces the row with its key
abbrev pub IsPut : Trees → Row → Query → Row → Edit → Type 0
IsPut db params q new edit =
    (found : List Row) × AreConflicts (Some target) desk_schema.indexes (stock_at 1) (db 1) new found
    × (((found ≡ []) × (edit ≡ edit_of db (stock_at 1) [] Given 0 (new ∷ []))) ⊎ Replaces db params q new found edit)

abbrev pub task_of : List Index → State → Row → Task
task_of extra old params = task_for extra old (stock_at 1) params

-- an edit that puts the row leaves these trees
abbrev pub IsPutBy : List Index → Trees → Row → Query → Row → Trees → Type 0
IsPutBy extra db params q new next = (edit : Edit) × IsPut db params q new edit × Edited (desk_with extra) Enforced db edit (Ok next)

abbrev pub clauses : Query → List Upsert
clauses q = record { target = Some target; update = Some (record { lets = []; body = q }) } ∷ []

module _ (extra : List Index) (are : AllByRecursion IsExtra extra) (old : State) (params : Row) (q : Query) where
  clears : (new : Row) (db : Trees) (found : List Row) (out : Result Written (Option Error)) → Clears (task_of extra old params) Abort new db found out → Puts (task_of extra old params) new db out
  clears new db found out h = search (rules, arith)

  -- the row is inserted, or the rows of the query replace those with its key
  ends : (new : Row) (db : Trees) (w : Written) → Upserts (task_of extra old params) Abort new db (clauses q) (Ok w) → IsPutBy extra db params q new w.trees
  ends new db w ([], conflicts, h) =
      let edit = edit_of db (stock_at 1) [] Given 0 (new ∷ []) in
      let all = went (clears new db h.0 (Ok w) h.2) in (
        edit,
        ([], are_conflicts extra are conflicts, inl (refl, refl)),
        subst (λ (t : Trees). Edited (desk_with extra) Enforced db edit (Ok t)) (sym (ap (λ (it : Written). it.trees) (same_value all.2))) all.1,
      )
  ends new db w (there ∷ more, conflicts, h) =
      let found = went h in
      let written = went found.2 in
      let edit = edit_of db (stock_at 1) (ids_of found.0) Given 1 found.0 in (
        edit,
        (there ∷ more, are_conflicts extra are conflicts, inr (there, more, refl, found.0, found.1.answer Null, refl)),
        subst (λ (t : Trees). Edited (desk_with extra) Enforced db edit (Ok t)) (sym (ap (λ (it : Written). it.trees) (same_value written.2))) written.1,
      )

  judged : (new : Row) (db : Trees) (w : Written) (verdict : Option Refusal) → Judged (task_of extra old params) Abort (clauses q) new db verdict (Ok w)
      → IsPutBy extra db params q new w.trees
  judged new db w verdict h = search (rules, arith, ends)

  tried : (new : Row) (db : Trees) (w : Written) → Tries (task_of extra old params) Abort (clauses q) new db (Ok w) → IsPutBy extra db params q new w.trees
  tried new db w (inl h) = absurd (let e = h.1 in cc)
  tried new db w (inr h) = judged new db w h.0 h.2

-- one row of VALUES is tried, and no count is kept
pub tries_one : (extra : List Index) (are : AllByRecursion IsExtra extra) (old : State) (params : Row) (q : Query) (terms : List Term) (width : ℕ) (db : Trees) (source : Row) (w : Written)
    → stamped (stock_at 1) params ≡ params → value_rows params width (length terms / width) terms ≡ source ∷ []
    → InsertsOr (task_of extra old params) Abort (clauses q) (Values terms width) db (Ok w)
    → IsPutBy extra db params q (with_rowid Chosen (db 1) (cast_row (stock_at 1) source)) w.trees
tries_one extra are old params q terms width db source w unstamped rows h =
    let given = went h in
    let counted = went given.2 in
    let each = went counted.2 in
    let noted = went each.2 in
    let first : given.0 ≡ source ∷ [] = given.1.1 ∙ ap (λ ps. value_rows ps width (length terms / width) terms) unstamped ∙ rows in
    let tries = went (subst (λ rs. TriesEach (task_of extra old params) Abort (clauses q) rs (count_of counted.0) (nothing db) (Ok each.0)) first each.1) in
    let new = with_rowid Chosen (db 1) (cast_row (stock_at 1) source) in
    let trees : w.trees ≡ tries.0.trees = ap (λ (it : Written). it.trees) (same_value noted.2) ∙ same_value noted.1 ∙ ap (λ (p : Written × ℤ). p.0.trees) (same_value tries.2) in
    subst (IsPutBy extra db params q new) (sym trees) (tried extra are old params q new db tries.0 tries.1)

pub upserts : (sql : List ℕ) (params : Row) (old new : State) (terms : List Term) (width : ℕ) (q : Query) (source : Row) (count : ℕ)
    → Means sql (InsertOr 1 Abort (Values terms width) (clauses q))
    → stamped (stock_at 1) params ≡ params → value_rows params width (length terms / width) terms ≡ source ∷ []
    → IsReady old → Executes sql params old new (Ok count)
    → (edit : Edit) × IsPut old.now.trees params q (with_rowid Chosen (old.now.trees 1) (cast_row (stock_at 1) source)) edit × Edits old new edit
upserts sql params old new terms width q source count means unstamped rows ready h =
    let command = InsertOr 1 Abort (Values terms width) (clauses q) in
    let it = ran_rows _ params old new command count ready (runs_ready sql params old new command count means ready h) (stock_at 1) (λ did. did) in
    let put = tries_one ready.schema.extra ready.schema.are old params q terms width old.now.trees source it.0 unstamped rows it.1 in
    (put.0, put.1, it.2 put.0 it.0.trees refl put.2)

pub put_tree : (db : Trees) (params : Row) (q : Query) (new : Row) (edit : Edit) → IsPut db params q new edit → edit.table.tree ≡ 1
put_tree db params q new edit x = search (rules, arith)
