-- The upsert of a cell: why it fails, and what it leaves. For `put_cell`.
use Rattle.std.proofs.Common.{◌≡◌, ◌+◌, ℕ, ℤ, suc, List, [], ◌∷◌, ◌++◌, length, inl, inr, Option, None, Some, Err, Ok, true, false, refl, sym, ap, subst, ◌∙◌, arith, not, rules}
use Rattle.std.specs.Prelude.{⊤}
use Rattle.sqlite.specs.declared.types.Value.TheVariants.{Null, Int}
use Rattle.sqlite.specs.declared.error.Error.{Error}
use Rattle.sqlite.specs.Order.{Row}
use Rattle.sqlite.specs.Tree.{Trees, rowid}
use Rattle.sqlite.specs.Source.TheVariants.{Values}
use Rattle.sqlite.specs.Edit.{Edit, edit_of, edited, next_rowid}
use Rattle.sqlite.specs.Rowids.TheVariants.{Given}
use Rattle.sqlite.specs.Rows.{Written, Sourced, Tries, TriesEach, Upserts, Judged, Puts, Updates, InsertsOr, nothing, shown, count_of}
use Rattle.sqlite.specs.Listing.{understood}
use Rattle.sqlite.specs.State.{State, ExecutesInside}
use Rattle.sqlite_schema.specs.declared.schema.Among.TheVariants.{All}
use Rattle.sqlite_schema.specs.declared.command.Conflict.TheVariants.{Abort}
use Rattle.sqlite_schema.specs.Rules.{Obeys, Refers, agree}
use Rattle.sqlite_rules.specs.declared.error.Refusal.{Refusal}
use Rattle.sqlite_rules.specs.Keys.{AreConflicts}
use Rattle.sqlite_rules.specs.Steps.{IsJudged}
use Rattle.sqlite_rules.specs.Calls.{ids_of}
use Rattle.sqlite_rules.proofs.ListLemmas.{all_has}
use Rattle.sqlite_typing.specs.Types.{accepts_terms, accepts_program}
use Rattle.sqlite_tied.specs.Compute.{everything}
use Rattle.std.specs.List.{AllByRecursion}
use Rattle.desk_sql.specs.Schema.{desk_schema, desk_with, IsExtra, stock_at}
use Rattle.desk_sql.specs.Lists.{numbered_row, IsTableOf}
use Rattle.sqlite_schema.specs.declared.schema.Index.{Index}
use Rattle.desk_sql.proofs.Indexes.{are_conflicts}
use Rattle.desk_sql.specs.Rows.{Tables, StockRow, stock_columns}
use Rattle.desk_sql.specs.Calls.{MayRun}
use Rattle.desk_sql.specs.Stock.{is_cell, with_places, put, puts_cell, AreApart}
use Rattle.desk_sql.specs.Writable.{HasRowids, MayPut, IsShort}
use Rattle.desk_sql.specs.Texts.{put_cell_text}
use Rattle.desk_sql.specs.Meanings.{put_cell, put_cell_terms, put_cell_query}
use Rattle.desk_sql.proofs.Effects.{Says, Effect}
use Rattle.desk_sql.proofs.Framing.{ready_of, makes_at}
use Rattle.desk_sql.proofs.Places
use Rattle.desk_sql.proofs.Rowids.{low_fewer, rowids_fewer, rowids_kept}
use Rattle.desk_sql.proofs.Writing.{same_value, task_for, Edits, target, tries_one, IsPut, upserts, put_tree, clauses}
use Rattle.desk_sql.proofs.InsertReasons.{obeys_desk}
use Rattle.desk_sql.proofs.UpdateReasons.{stock_fit, kept_kind, twin_four, low_fits}
use Rattle.sqlite_value.proofs.KeyLemmas.{first_key-plain}
use Rattle.desk_sql.proofs.Keyed.{value_there}
use Rattle.desk_sql.proofs.Testing.{eq_whole, eq_text, and_true}
use Rattle.desk_sql.proofs.Putting.{put_params, source_is, puts_table, puts_low, Sets, conflict_at, sets, sets_at}
use Rattle.desk_sql.proofs.Refusing.{write_reason, IsSafe, edit_goes, made_refers, rows_go, gives_on, answered, desk_at}
use Rattle.desk_sql.proofs.NewRow.{IsFit, put_safe}
use Rattle.desk_sql.proofs.ChangedRows.{update_safe}
use Rattle.desk_sql.proofs.Storing.{range_holds, next_fits, chosen_free, table_of, rows_all}

put_says : (s : StockRow) → Says put_cell_text put_cell (put_params s) (λ _. accepts_terms put_cell_terms (put_params s))
unfolding understood everything
put_says s = record { means = λ _. record { is = refl; plain = (refl, refl) }; whole = λ _. refl; types = λ _. refl }

change_typed : (extra : List Index) (s : StockRow) (id there : ℤ)
    → accepts_program (desk_with extra) [] put_cell_query (put_params s ++ Int there ∷ shown (stock_at 1) (numbered_row stock_columns (id, s))) ≡ true
unfolding everything
change_typed extra s id there = refl

-- rows agree on the columns of the key where they are of one cell
pub agree_cell : (id : ℤ) (s : StockRow) (p : ℤ × StockRow)
    → agree (record { digits = 0 }) target (numbered_row stock_columns p) target (numbered_row stock_columns (id, s)) ≡ is_cell s p.1
agree_cell id s p = rw first_key-plain (simp (eq_whole, eq_text) (simp and_true))

module _ (extra : List Index) (are : AllByRecursion IsExtra extra) (old : State) (t : Tables) (s : StockRow) (rowids : HasRowids 1 old.now.trees) (it : IsTableOf stock_columns (old.now.trees 1) t.stock)
    (obeys : Obeys desk_schema old.now.trees) (fits : MayPut s t) (unlimited : old.step_limit ≡ None) where
  abbrev db : Trees
  db = old.now.trees

  abbrev new : Row
  new = numbered_row stock_columns (next_rowid (db 1), s)

  fit : IsFit (stock_at 1) db new
  fit = stock_fit db (next_rowid (db 1)) s (next_fits (db 1) rowids.stock) (ap not (range_holds s.kind 0 3 (omega arith) fits.kind)) fits.free fits.short

  -- each edit that puts the row is allowed
  safe : (edit : Edit) → Sets db t.stock it s edit → IsSafe db edit
  safe edit (inl (none, is)) = subst (IsSafe db) (sym is)
      (put_safe db (stock_at 1) new (inr (inl refl)) (table_of stock_columns (db 1) t.stock it) obeys fit (chosen_free stock_columns (db 1) t.stock s it)
      (rows_all stock_columns (db 1) t.stock _ (λ k. is_cell s k ≡ false) it (λ p other. agree_cell (next_rowid (db 1)) s p ∙ other) none, tt) refl tt)
  safe edit (inr (q, there, here, rows, asked, is)) = subst (IsSafe db) (sym is)
      (update_safe (sets_at db t.stock it s q) (inr (inl refl)) obeys
      (λ p known same.
      let at = value_there stock_columns (db 1) t.stock it p known in
      stock_fit db p.0 (with_places s p.1) (low_fits (db 1) (numbered_row stock_columns p) p.0 (low_fewer 0 1 (db 1) (omega arith) rowids.stock) at.1 refl) (kept_kind db p.0 p.1 obeys at.1) fits.free
      (all_has (λ (x : StockRow). IsShort (length x.supplier + length x.product)) t.stock p.1 fits.others at.0))
      (λ p. twin_four (stock_at 1) (numbered_row stock_columns p) (numbered_row stock_columns (p.0, with_places s p.1)) refl refl refl refl refl tt)
      refl Places.stock.serves rows asked)

  puts_safe : (edit : Edit) → IsPut db (put_params s) put_cell_query new edit → IsSafe db edit
  puts_safe edit put = safe edit (sets db t.stock it s edit put)

  puts_on : (conflict : AreConflicts (Some target) desk_schema.indexes (stock_at 1) (db 1) new []) (stop : Option Error)
      → ¬ Puts (task_for extra old (stock_at 1) (put_params s)) new db (Err stop)
  puts_on none stop (inl k) =
      edit_goes extra are db (edit_of db (stock_at 1) [] Given 0 (new ∷ [])) (puts_safe _ ([], none, inl (refl, refl))) k.0 k.1
  puts_on none stop (inr k) = gives_on stop k.2

  changes_on : (there : Row) (more : List Row) → AreConflicts (Some target) desk_schema.indexes (stock_at 1) (db 1) new (there ∷ more) → (stop : Option Error)
      → ¬ Updates (task_for extra old (stock_at 1) (put_params s)) (record { lets = []; body = put_cell_query })
      (put_params s ++ rowid there ∷ shown (stock_at 1) new) db (Err stop)
  changes_on there more conflict stop (inl k) =
      let q = conflict_at db t.stock it s (there ∷ more) there conflict (inl refl) in
      answered extra are old (put_params s ++ rowid there ∷ shown (stock_at 1) new) (stock_at 1) 1 put_cell_query.filter put_cell_query.project unlimited
      (subst (λ v. accepts_program (desk_with extra) [] put_cell_query (put_params s ++ v ∷ shown (stock_at 1) new) ≡ true) (sym q.3)
      (change_typed extra s (next_rowid (db 1)) q.0.0)) k.0 k.1
  changes_on there more conflict stop (inr (rows, given, inl k)) =
      edit_goes extra are db (edit_of db (stock_at 1) (ids_of rows) Given 1 rows)
      (puts_safe _ (there ∷ more, conflict, inr (there, more, refl, rows, given.answer Null, refl))) k.0 k.1
  changes_on there more conflict stop (inr (rows, given, inr k)) = gives_on stop k.2

  upserts_on : (stop : Option Error)
      → ¬ Upserts (task_for extra old (stock_at 1) (put_params s)) Abort new db (clauses put_cell_query) (Err stop)
  upserts_on stop ([], conflict, ([], conflict_too, h)) = puts_on (are_conflicts extra are conflict) stop h
  upserts_on stop ([], conflict, (x ∷ more, conflict_too, h)) = puts_on (are_conflicts extra are conflict) stop h
  upserts_on stop (there ∷ more, conflict, h) = changes_on there more (are_conflicts extra are conflict) stop h

  judged_on : (verdict : Option Refusal) (stop : Option Error) → IsJudged (stock_at 1) new verdict
      → ¬ Judged (task_for extra old (stock_at 1) (put_params s)) Abort (clauses put_cell_query) new db verdict (Err stop)
  judged_on None stop judged h = upserts_on stop h
  judged_on verdict stop judged h = let it = fit in search (rules, arith)

  tries_on : (stop : Option Error) → ¬ Tries (task_for extra old (stock_at 1) (put_params s)) Abort (clauses put_cell_query) new db (Err stop)
  tries_on stop (inl h) = let bad = sym (next_fits (db 1) rowids.stock) ∙ h.0 in cc
  tries_on stop (inr h) = judged_on h.0 stop h.1 h.2

  sourced_on : (stop : Option Error) → ¬ Sourced old.step_limit (desk_at extra old) (put_params s) (Values put_cell_terms 7) (Err stop)
  sourced_on stop none = search (rules, arith, put_says)

  each_on : (stop : Option Error) → ¬ TriesEach (task_for extra old (stock_at 1) (put_params s)) Abort (clauses put_cell_query) ((Null ∷ put_params s) ∷ []) (count_of None) (nothing db) (Err stop)
  each_on stop (inl k) =
      tries_on k.0 (subst (λ n. Tries (task_for extra old (stock_at 1) (put_params s)) Abort (clauses put_cell_query) n db (Err k.0)) (source_is (db 1) s) k.1)
  each_on stop (inr k) = gives_on stop k.2

  goes : (stop : Option Error) → ¬ InsertsOr (task_for extra old (stock_at 1) (put_params s)) Abort (clauses put_cell_query) (Values put_cell_terms 7) db (Err stop)
  goes stop (inl k) = sourced_on k.0 k.1
  goes stop (inr (rows, given, inl k)) = gives_on k.0 k.1
  goes stop (inr (rows, given, inr (counted, known, inl k))) =
      let none : counted ≡ None = same_value known in
      each_on k.0 (subst (λ c. TriesEach (task_for extra old (stock_at 1) (put_params s)) Abort (clauses put_cell_query) ((Null ∷ put_params s) ∷ []) (count_of c) (nothing db) (Err k.0)) none
      (subst (λ rs. TriesEach (task_for extra old (stock_at 1) (put_params s)) Abort (clauses put_cell_query) rs (count_of counted) (nothing db) (Err k.0)) given.1 k.1))
  goes stop (inr (rows, given, inr (counted, known, inr (done, tried, inl k)))) = gives_on k.0 k.1
  goes stop (inr (rows, given, inr (counted, known, inr (done, tried, inr k)))) = gives_on stop k.2

  refers : (w : Written) → InsertsOr (task_for extra old (stock_at 1) (put_params s)) Abort (clauses put_cell_query) (Values put_cell_terms 7) db (Ok w) → Refers All desk_schema w.trees
  refers w done =
      let put = tries_one extra are old (put_params s) put_cell_query put_cell_terms 7 db (Null ∷ put_params s) w refl refl done in
      made_refers extra are db w.trees put.0 (puts_safe put.0 (subst (λ n. IsPut db (put_params s) put_cell_query n put.0) (source_is (db 1) s) put.1)) put.2

-- the row is put by one edit
put_by : (old new : State) (t : Tables) (s : StockRow) (count : ℕ) → MayRun old t → ExecutesInside 0 put_cell_text (put_params s) old new (Ok count)
    → (edit : Edit) × IsPut old.now.trees (put_params s) put_cell_query (numbered_row stock_columns (next_rowid (old.now.trees 1), s)) edit × Edits old new edit
put_by old new t s count may ran =
    let says = put_says s in
    let it = upserts put_cell_text (put_params s) old new put_cell_terms 7 put_cell_query (Null ∷ put_params s) count says.means
    refl refl (ready_of old t may ran.1.was_open) ran.0 in
    (it.0, subst (λ n. IsPut old.now.trees (put_params s) put_cell_query n it.0) (source_is (old.now.trees 1) s) it.1, it.2)

pub sets_cell : (s : StockRow) → Effect put_cell_text (put_params s) AreApart (puts_cell s) (HasRowids 1) (MayPut s) (λ _. ⊤) suc
sets_cell s = record {
  made = λ old new t count may apart ran. (
      let db = old.now.trees in
      let shown_rows = (may.sees ran.1.was_open).rows in
      let it = put_by old new t s count may ran in
      makes_at old new it.0 it.2 1 (edited db it.0) (puts_cell s t) (put_tree db (put_params s) put_cell_query _ it.0 it.1) refl
      (Places.stock.with_rows db t shown_rows (edited db it.0) (put s t.stock) (puts_table db t.stock shown_rows.stock s it.0 apart (sets db t.stock shown_rows.stock s it.0 it.1) it.2.applies.fresh)));
  reason = λ old new t e rowids may fits up ran. (
      let sees = may.sees up.is_open in
      let obeys = obeys_desk old t sees in
      write_reason put_cell_text put_cell (put_params s) (put_says s).means (put_says s).whole refl refl old new up sees.schema
      (λ text stop h. rows_go sees.schema.extra sees.schema.are old (put_params s) (stock_at 1) put_cell stop
      (goes sees.schema.extra sees.schema.are old t s rowids sees.rows.stock obeys fits up.unlimited)
      (refers sees.schema.extra sees.schema.are old t s rowids sees.rows.stock obeys fits up.unlimited) h) e ran);
  rowids = λ old new t count may any ran n has. (
      let shown_rows = (may.sees ran.1.was_open).rows.stock in
      let it = put_by old new t s count may ran in
      rowids_kept old new it.0 it.2 n (rowids_fewer n (suc n) old.now.trees (omega arith) has)
      (puts_low old.now.trees t.stock shown_rows s it.0 n (sets old.now.trees t.stock shown_rows s it.0 it.1) it.2.applies.fresh has.few has.stock));
}
