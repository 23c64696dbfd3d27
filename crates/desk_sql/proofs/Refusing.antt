-- Why a write of the desk's tables fails: out of memory, or the disk failed. Each other error that the store names is shut
-- out, if the rules of SQL allow the edit.
use Rattle.std.proofs.Common.{◌≡◌, inl, inr, ℕ, ℤ, zero, suc, ◌/◌, List, [], ◌∷◌, length, length-append, append-nil, slice_get, Bool, true, false, ◌||◌, Option, None, Some, Ok, Err, Result, IfErr, sym, ap, subst, ◌∙◌, arith, rules}
use Rattle.sqlite.specs.declared.types.Value.TheVariants.{Null}
use Rattle.sqlite.specs.declared.error.Error.{Error}
use Rattle.sqlite_resolve.specs.declared.compiled.Compiled.{Compiled}
use Rattle.sqlite_schema.specs.declared.schema.Among.TheVariants.{All}
use Rattle.sqlite_schema.specs.declared.schema.Keys.TheVariants.{Enforced}
use Rattle.sqlite_schema.specs.Rules.{Refers}
use Rattle.sqlite_rules.specs.declared.error.Refusal.{Refusal}
use Rattle.sqlite_rules.specs.Lists.{Has}
use Rattle.sqlite_rules.specs.Calls.{ids_of}
use Rattle.sqlite_rules.specs.Edit.{IsRefused, Edit, edit_of, taken_by}
use Rattle.sqlite_rules.specs.Action.{Leads}
use Rattle.sqlite_typing.specs.Types.{accepts_terms, accepts_program}
use Rattle.sqlite.specs.Order.{Row}
use Rattle.sqlite.specs.Term.{Term}
use Rattle.sqlite.specs.Table.{Table}
use Rattle.sqlite.specs.Tree.{Trees}
use Rattle.sqlite.specs.Query.{IsAnswer}
use Rattle.sqlite.specs.Program.{overlay}
use Rattle.sqlite.specs.Source.TheVariants.{Values}
use Rattle.sqlite.specs.Command.{Command}
use Rattle.sqlite.specs.Command.TheVariants.{Insert, InsertOr, Update, Delete, CreateTable, CreateIndex}
use Rattle.sqlite.specs.Rowids.TheVariants.{Given}
use Rattle.sqlite.specs.Rows.{Outcome, Written, Inserts, Then, Gives, Edited, Sourced, Queried, Counter, Counts, stamped, count_of, rowids_for}
use Rattle.sqlite.specs.Does.{Does, OnRows, WritesRows, Concludes}
use Rattle.sqlite.specs.Effect.{Database, is_query, value_rows}
use Rattle.sqlite.specs.Listing.{understood}
use Rattle.sqlite.specs.Clock.{timed}
use Rattle.sqlite.specs.State.{State, mode_of, IsMisplaced, Escapes, EndsScope, ExecutesIn, ExecutesInside, RunsAlone, is_pragma, text_of}
use Rattle.sqlite.proofs.Callers.{IsPlain, command_of, statement_of, one_step}
use Rattle.sqlite_schema.specs.declared.program.Program.{Program}
use Rattle.sqlite_schema.specs.declared.schema.Schema.{Schema}
use Rattle.sqlite_schema.specs.declared.schema.Index.{Index}
use Rattle.std.specs.List.{AllByRecursion}
use Rattle.desk_sql.specs.declared.versions.Version.TheVariants.{Two}
use Rattle.desk_sql.specs.Schema.{desk_schema, desk_with, IsExtra, IsSchemaOf}
use Rattle.desk_sql.specs.Causes.{IsUp, HasReason}
use Rattle.desk_sql.proofs.Meaning.{Means}
use Rattle.desk_sql.specs.Meanings.{sorted_rows}
use Rattle.desk_sql.proofs.Causing.{takes, plain_at, not_run, of_store, one_table}
use Rattle.desk_sql.proofs.Indexes.{refused_bare}
use Rattle.desk_sql.proofs.Storing.{NeverOversized}
use Rattle.desk_sql.proofs.Writing.{Lands, lands, went, same_value, idle, source_edit, task_for, insert_edits}

-- the command changes rows, or creates a table or an index
abbrev pub is_change : Command → Bool
is_change (Insert at from) = true
is_change (InsertOr at way from clauses) = true
is_change (Update at q) = true
is_change (Delete at q) = true
is_change CreateTable = true
is_change (CreateIndex at) = true
is_change _ = false

-- a change is in its place in each transaction, and does not end it
placed : (s : State) (k : Command) (e : Error) → is_change k ≡ true → ¬ IsMisplaced s k e
placed s k e change x = search (rules, arith)

stays_in : (held : ℕ) (s : State) (k : Command) → is_change k ≡ true → ¬ Escapes held s k
stays_in held s k change x = search (rules, arith)

-- the database that the transaction sees, with this schema
abbrev pub seen_with : Schema → State → Database
seen_with schema s = record { schema = schema; trees = s.now.trees }

-- the same, with the desk's schema and these indexes beside those of its keys
abbrev pub desk_at : List Index → State → Database
desk_at extra s = seen_with (desk_with extra) s

-- A statement that changes rows, or creates a table or an index, under any schema.
module _ {schema : Schema} (text : List ℕ) (command : Command) (params : Row) (meant : command_of (understood schema text) ≡ command)
    (plain : IsPlain (understood schema text)) (whole : takes (length text) (length params) (understood schema text) ≡ true)
    (change : is_change command ≡ true) (silent : (is_query command || (is_pragma command || false)) ≡ false)
    (old new : State) (up : IsUp old) (has : old.now.schema ≡ schema)
    -- the rules of SQL allow it
    (allowed : (stop : Option Error)
    → ¬ Does old.step_limit (mode_of old) params (seen_with schema old) (statement_of text (understood schema text)) None command (Err stop)) where
  known : (c : Compiled) → understood old.now.schema text ≡ Ok c → c.command ≡ command
  known c is = ap command_of (sym is ∙ ap (λ s. understood s text) has) ∙ meant

  ran : (c : Compiled) → understood old.now.schema text ≡ Ok c → (now : ℕ) (stop : Option Error)
      → ¬ Does old.step_limit (mode_of old) (timed params c.formats now) old.now (text_of text c) c.returning c.command (Err stop)
  ran c is now stop does =
      let bare = plain_at text params plain whole old new up has c is in
      let given : timed params c.formats now ≡ params = ap (λ f. timed params f now) bare.1 ∙ append-nil params in
      let one = subst (λ p. Does old.step_limit (mode_of old) p old.now (text_of text c) c.returning c.command (Err stop)) given does in
      let two = subst (λ r. Does old.step_limit (mode_of old) params old.now (text_of text c) r c.command (Err stop)) bare.0 one in
      let three = subst (λ k. Does old.step_limit (mode_of old) params old.now (text_of text c) None k (Err stop)) (known c is) two in
      let four = subst (λ s. Does old.step_limit (mode_of old) params (record old.now { schema = s }) (text_of text c) None command (Err stop)) has three in
      let same : text_of text c ≡ statement_of text (understood schema text) = ap (statement_of text) (sym is ∙ ap (λ s. understood s text) has) in
      allowed stop (subst (λ t. Does old.step_limit (mode_of old) params (seen_with schema old) t None command (Err stop)) same four)

  alone : (c : Compiled) → understood old.now.schema text ≡ Ok c → (now : ℕ) (e : Error)
      → RunsAlone false old new text c (timed params c.formats now) (Err e) → HasReason old new e
  alone c is now e h = search (rules, arith, plain_at, known, placed, ran, of_store)

  -- it fails out of memory, or where the disk failed or refused
  pub statement_reason : (e : Error) → ExecutesInside 0 text params old new (Err e) → HasReason old new e
  unfolding ExecutesIn EndsScope
  statement_reason e x = search (rules, arith, not_run, alone, stays_in, known)

-- a write of the desk's tables that the rules of SQL allow fails out of memory, or where the disk failed or refused
pub write_reason : (text : List ℕ) (command : Command) (params : Row) → Means text command
    → ((extra : List Index) → takes (length text) (length params) (understood (desk_with extra) text) ≡ true)
    → is_change command ≡ true → (is_query command || (is_pragma command || false)) ≡ false
    → (old new : State) → IsUp old → (has : IsSchemaOf Two old.now.schema)
    → ((t : List ℕ) (stop : Option Error) → ¬ Does old.step_limit (mode_of old) params (desk_at has.extra old) t None command (Err stop))
    → (e : Error) → ExecutesInside 0 text params old new (Err e) → HasReason old new e
write_reason text command params m whole change silent old new up has allowed e ran =
    statement_reason text command params (m has.extra).is (m has.extra).plain (whole has.extra) change silent old new up has.is
    (allowed (statement_of text (understood (desk_with has.extra) text))) e ran

-- what holds of each error holds of a result
pub if_failed : (P : Error → Type 0) (Ran : Result ℕ Error → Type 0) (r : Result ℕ Error) → Ran r → ((e : Error) → Ran (Err e) → P e) → IfErr r P
if_failed x y r ran so = search (rules, arith, ran)

-- The rules of SQL allow the edit: none of them refuses it, each new row can be stored, and after it each reference has its
-- parent.
pub record IsSafe (db : Trees) (edit : Edit) : Type 0 where
  pub permitted : (why : Refusal) → ¬ IsRefused desk_schema Enforced db edit why
  pub storable : (row : Row) → Has edit.news row → NeverOversized edit.table row
  pub refers : (next : Trees) → Lands db edit next → Refers All desk_schema next

-- Statements that write, whatever indexes there are beside those of the keys.
module _ (extra : List Index) (are : AllByRecursion IsExtra extra) where
  -- a safe edit is made
  pub edit_goes : (db : Trees) (edit : Edit) → IsSafe db edit → (stop : Option Error) → ¬ Edited (desk_with extra) Enforced db edit (Err stop)
  edit_goes db edit safe stop (why, inl (reason, refused, is), same) = safe.permitted reason (refused_bare extra are db edit reason refused)
  edit_goes db edit safe stop (why, inr (inl (row, new, large, is)), same) = safe.storable row new extra are large
  edit_goes db edit safe stop (why, inr (inr (next, made, settles)), same) =
      stuck settles.0 (rw (idle extra 0 edit.table.tree (taken_by db edit) edit.news) at settles.1)
    where
      stuck : (n : ℕ) → ¬ Leads (desk_with extra) Enforced n next [] (Err why)
      stuck zero h = let e = h.1 in cc
      stuck (suc n) h = absurd (omega (arith, ap length h.2, length-append h.0 (h.1 ∷ [])))

  -- an edit that was made, and its references
  pub made_refers : (db next : Trees) (edit : Edit) → IsSafe db edit → Edited (desk_with extra) Enforced db edit (Ok next) → Refers All desk_schema next
  made_refers db next edit safe h =
      safe.refers next (lands extra db next edit
      (one_step (desk_with extra) Enforced db next edit (idle extra 0 edit.table.tree (taken_by db edit) edit.news) h))

-- a value that is given is no stop
pub gives_on : {A : Type 0} {a : A} (stop : Option Error) → ¬ ◌≡◌ {A = Outcome A} (Err stop) (Ok a)
gives_on stop h = let e = h in cc

-- Whole statements.
module _ (extra : List Index) (are : AllByRecursion IsExtra extra) where
  -- a statement on rows that are written, with the references of each row
  pub rows_go : (old : State) (params : Row) (table : Table) (command : Command) (stop : Option Error)
      → ((s : Option Error) → ¬ WritesRows (task_for extra old table params) old.now.trees command (Err s))
      → ((w : Written) → WritesRows (task_for extra old table params) old.now.trees command (Ok w) → Refers All desk_schema w.trees)
      → ¬ OnRows (task_for extra old table params) (mode_of old) None command old.now.trees (Err stop)
  rows_go old params table command stop goes refers (inl h) = goes h.0 h.1
  rows_go old params table command stop goes refers (inr h) = concluded h.0 (refers h.0 h.1) h.2
    where
      concluded : (w : Written) → Refers All desk_schema w.trees → ¬ Concludes (task_for extra old table params) (mode_of old) None w (Err stop)
      concluded w held x = search (rules, arith, gives_on)

  -- VALUES of these terms are rows, whose insertion is one edit
  pub insert_goes : (old : State) (params : Row) (at : ℕ) (table : Table) (terms : List Term) (width : ℕ)
      → slice_get desk_schema.tables at ≡ Some table → table.is_counted ≡ false → stamped table params ≡ params
      → accepts_terms terms params ≡ true → old.step_limit ≡ None
      → IsSafe old.now.trees (source_edit table terms width params old.now.trees)
      → (t : List ℕ) (stop : Option Error) → ¬ Does old.step_limit (mode_of old) params (desk_at extra old) t None (Insert at (Values terms width)) (Err stop)
  insert_goes old params at table terms width there uncounted unstamped typed unlimited safe t stop h =
      rows_go old params table (Insert at (Values terms width)) stop goes
      (λ w done. made_refers extra are old.now.trees w.trees (source_edit table terms width params old.now.trees) safe
      (insert_edits (task_for extra old table params) terms width old.now.trees w uncounted unstamped done)) (rw there at h)
    where
      sourced : (stopped : Option Error) → ¬ Sourced old.step_limit (desk_at extra old) (stamped table params) (Values terms width) (Err stopped)
      sourced stopped x = search (rules, arith)

      counter : (stopped : Option Error) → ¬ Counter (task_for extra old table params) old.now.trees (Err stopped)
      counter stopped k = let e = rw uncounted at k in cc

      edit_is : (rows : List Row) (counted : Option Row) → rows ≡ value_rows (stamped table params) width (length terms / width) terms
          → edit_of old.now.trees table [] (rowids_for table (count_of counted)) 0 rows ≡ source_edit table terms width params old.now.trees
      edit_is rows counted is = search (rules, arith)

      counts : (mid : Trees) (counted : Option Row) (top : ℤ) (stopped : Option Error)
          → ¬ Counts (task_for extra old table params) mid counted top (Err stopped)
      counts mid counted top stopped k = let e = rw uncounted at k in cc

      goes : (s : Option Error) → ¬ Inserts (task_for extra old table params) (Values terms width) old.now.trees (Err s)
      goes s (inl k) = sourced k.0 k.1
      goes s (inr (rows, given, inl k)) = counter k.0 k.1
      goes s (inr (rows, given, inr (counted, known, inl k))) =
          edit_goes extra are old.now.trees (source_edit table terms width params old.now.trees) safe k.0
          (subst (λ e. Edited (desk_with extra) Enforced old.now.trees e (Err k.0)) (edit_is rows counted given.1) k.1)
      goes s (inr (rows, given, inr (counted, known, inr (mid, edited, inl k)))) = counts mid counted _ k.0 k.1
      goes s (inr (rows, given, inr (counted, known, inr (mid, edited, inr k)))) = gives_on s k.2

  -- A query of one table is answered, and the edit of its rows is safe.
  module _ (old : State) (params : Row) (table : Table) (tree : ℕ) (filter project : List Term) (unlimited : old.step_limit ≡ None)
      (typed : accepts_program (desk_with extra) [] (sorted_rows tree filter project []) params ≡ true) where
    abbrev program : Program
    program = record { lets = []; body = sorted_rows tree filter project [] }

    pub answered : (s : Option Error) → ¬ Queried old.step_limit (desk_at extra old) program params (Err s)
    answered s none = search (rules, arith, one_table)

    -- a command that makes a safe edit of the rows that are found
    found_goes : (command : Command) (edit : List Row → Edit) (tell : List Row → List Row)
        → ((out : Result Written (Option Error)) → WritesRows (task_for extra old table params) old.now.trees command out
        → Then (Queried old.step_limit (desk_at extra old) program params) (λ rows. Then (Edited (desk_with extra) Enforced old.now.trees (edit rows))
        (λ next. Gives (record { trees = next; rows = tell rows; last = None }))) out)
        → ((rows : List Row) → IsAnswer (sorted_rows tree filter project []) (overlay old.now.trees []) params rows → IsSafe old.now.trees (edit rows))
        → (stop : Option Error) → ¬ OnRows (task_for extra old table params) (mode_of old) None command old.now.trees (Err stop)
    found_goes command edit tell does safe stop = rows_go old params table command stop (λ s h. goes s (does (Err s) h)) (λ w done.
        let found = went (does (Ok w) done) in
        let made = went found.2 in
        subst (Refers All desk_schema) (sym (ap (λ (it : Written). it.trees) (same_value made.2)))
        (made_refers extra are old.now.trees made.0 (edit found.0) (safe found.0 (found.1.answer Null)) made.1))
      where
        goes : (s : Option Error) → ¬ Then {B = Written} (Queried old.step_limit (desk_at extra old) program params) (λ rows.
            Then (Edited (desk_with extra) Enforced old.now.trees (edit rows)) (λ next. Gives (record { trees = next; rows = tell rows; last = None }))) (Err s)
        goes s (inl k) = answered k.0 k.1
        goes s (inr (rows, given, inl k)) = edit_goes extra are old.now.trees (edit rows) (safe rows (given.answer Null)) k.0 k.1
        goes s (inr (rows, given, inr k)) = gives_on s k.2

    -- an UPDATE whose edit is safe
    pub update_goes : (at : ℕ) → slice_get desk_schema.tables at ≡ Some table
        → ((rows : List Row) → IsAnswer (sorted_rows tree filter project []) (overlay old.now.trees []) params rows
        → IsSafe old.now.trees (edit_of old.now.trees table (ids_of rows) Given 1 rows))
        → (t : List ℕ) (stop : Option Error) → ¬ Does old.step_limit (mode_of old) params (desk_at extra old) t None (Update at program) (Err stop)
    update_goes at there safe t stop h =
        found_goes (Update at program) (λ rows. edit_of old.now.trees table (ids_of rows) Given 1 rows)
        (λ rows. (edit_of old.now.trees table (ids_of rows) Given 1 rows).news) (λ out did. did) safe stop (rw there at h)

    -- a DELETE whose edit is safe
    pub delete_goes : (at : ℕ) → slice_get desk_schema.tables at ≡ Some table
        → ((rows : List Row) → IsAnswer (sorted_rows tree filter project []) (overlay old.now.trees []) params rows
        → IsSafe old.now.trees (edit_of old.now.trees table (ids_of rows) Given 0 []))
        → (t : List ℕ) (stop : Option Error) → ¬ Does old.step_limit (mode_of old) params (desk_at extra old) t None (Delete at program) (Err stop)
    delete_goes at there safe t stop h =
        found_goes (Delete at program) (λ rows. edit_of old.now.trees table (ids_of rows) Given 0 [])
        (λ rows. taken_by old.now.trees (edit_of old.now.trees table (ids_of rows) Given 0 [])) (λ out did. did) safe stop (rw there at h)
