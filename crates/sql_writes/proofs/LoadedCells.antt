-- The writes of a load: one more cell, and the places of the nights of a range. For `insert_cell` and `set_nights`.
use Rattle.std.proofs.Common.{◌≡◌, ◌+◌, ℕ, ℤ, suc, List, [], ◌∷◌, filter, length, map, drop, slice_get, unwrap_or, inl, Some, None, Ok, Err, Result, IfOk, true, false, refl, sym, ap, ◌∙◌, arith, not, ◌&&◌, rules}
use Rattle.std.specs.List.{AllByRecursion, list_any}
use Rattle.std.proofs.lemmas.Bool.{false_from_ne_true, and_from}
use Rattle.std.proofs.lemmas.List.{length-map}
use Rattle.std.proofs.lemmas.List.Sorted.{length_permutation}
use Rattle.sqlite.specs.declared.types.Value.TheVariants.{Null, Text}
use Rattle.sqlite.specs.declared.error.Error.{Error}
use Rattle.sqlite.specs.Order.{Row}
use Rattle.sqlite.specs.Tree.{Trees}
use Rattle.sqlite.specs.Program.{overlay}
use Rattle.sqlite.specs.Query.{Query, IsAnswer}
use Rattle.sqlite.specs.Table.{Table}
use Rattle.sqlite.specs.Cast.{cast_row}
use Rattle.sqlite.specs.Command.{Command}
use Rattle.sqlite.specs.Command.TheVariants.{Update}
use Rattle.sqlite.specs.Does.{Tally, OnRows}
use Rattle.sqlite.specs.Effect.{Database}
use Rattle.sqlite.specs.Rows.{Written}
use Rattle.sqlite.specs.Edit.{edit_of, next_rowid, without_all}
use Rattle.sqlite.specs.Rowids.TheVariants.{Given}
use Rattle.sqlite.specs.Listing.{understood}
use Rattle.sqlite.specs.State.{State, mode_of, Executes, ExecutesInside}
use Rattle.sqlite.proofs.Callers.{statement_of}
use Rattle.sqlite_rules.specs.Calls.{ids_of}
use Rattle.sqlite_rules.proofs.PlaceLemmas.{given}
use Rattle.sqlite_rules.proofs.ListLemmas.{all_has, all_from, some_from}
use Rattle.sqlite_tied.specs.Compute.{everything}
use Rattle.sqlite_schema.specs.declared.schema.Index.{Index}
use Rattle.desk_sql.specs.Schema.{stock_at, desk_schema, desk_with}
use Rattle.desk_sql.specs.Lists.{numbered_row, IsTableOf}
use Rattle.desk_sql.specs.Rows.{whole, Tables, StockRow, stock_columns}
use Rattle.desk_sql.specs.Calls.{IsReady, MayRun}
use Rattle.desk_sql.specs.Stock.{is_cell, is_within}
use Rattle.sql_writes.specs.CellLoads.{insert_cell_text, set_nights_text, insert_cell_terms, set_nights_query, with_both, adds_cell, sets_nights, nights_in, MayAddCell, MaySetNights}
use Rattle.desk_sql.specs.Writable.{HasRowids, IsShort}
use Rattle.desk_sql.specs.declared.stock.NightRange.{NightRange}
use Rattle.desk_sql.proofs.Meaning.{Means}
use Rattle.desk_sql.proofs.Writing.{went, same_value, task_for, cast_null, does_so, runs_ready}
use Rattle.desk_sql.proofs.Inserting.{cast_int}
use Rattle.desk_sql.proofs.Reading.{passes, shown_of, shows_any}
use Rattle.desk_sql.proofs.Testing.{eq_whole, eq_text, ge_whole, le_whole, and_true}
use Rattle.desk_sql.proofs.Framing.{ready_of}
use Rattle.desk_sql.proofs.Keyed.{value_of}
use Rattle.desk_sql.proofs.Putting.{put_params}
use Rattle.desk_sql.proofs.UpdateReasons.{stock_fit, kept_kind, twin_four, low_fits, SaysUpdate, changes_rows}
use Rattle.desk_sql.proofs.Storing.{range_holds, rows_all, storable, held_from, is_between}
use Rattle.std.specs.Prelude.{⊤}
use Rattle.desk_sql.proofs.Effects.{Effect}
use Rattle.desk_sql.proofs.InsertReasons.{SaysInsert, adds_next}
use Rattle.desk_sql.proofs.Places.{chosen}
use Rattle.desk_sql.proofs.Places
use Rattle.sqlite_trees.proofs.ListLemmas.{filter-map}
use Rattle.desk_sql.proofs.PutReasons.{agree_cell}

-- no row is of the cell
pub each_other : (s : StockRow) (cells : List StockRow) → list_any (is_cell s) cells ≡ false → AllByRecursion (λ x. is_cell s x ≡ false) cells
each_other s cells none = search (rules, arith, all_from, false_from_ne_true, some_from)

cell_says : (s : StockRow) → SaysInsert insert_cell_text 1 insert_cell_terms 7 (put_params s)
unfolding understood everything
cell_says s = record { means = λ _. record { is = refl; plain = (refl, refl) }; whole = λ _. refl; types = λ _. refl }

-- One more cell: it is appended, since its rowid is the next.
pub loads_cell : (s : StockRow) → Effect insert_cell_text (put_params s) (λ _. ⊤) (adds_cell s) (HasRowids 1) (MayAddCell s) (λ _. ⊤) suc
loads_cell s =
    adds_next Places.stock (λ n db has. has.stock) (cell_says s) s (λ db. simp (cast_int, cast_null)) (MayAddCell s) (λ db t fits shown. (
    let kind : is_between s.kind 0 3 ≡ true = ap not (range_holds s.kind 0 3 (omega arith) fits.kind) in
    let free : (is_between s.free 0 s.allot && true) ≡ true = rw (range_holds s.free 0 s.allot (omega arith) fits.free) refl in
    record {
      alone = (refl, refl, and_from (is_between s.kind 0 3) (is_between s.free 0 s.allot && true) kind free);
      storable = held_from (stock_at 1) _ (storable _ _ refl refl (omega (arith, fits.short)), omega arith) (storable _ _ refl refl (omega (arith, fits.short)), tt) tt;
      single = (
        rows_all stock_columns (db 1) t.stock _ (λ x. is_cell s x ≡ false) shown.stock
            (λ p apart. agree_cell (next_rowid (db 1)) s p ∙ apart) (each_other s t.stock fits.lacks),
        tt,
      );
      parents = tt;
    }))

-- The places of a range of nights.

-- an UPDATE of a table counts the rows that its query shows
module _ (old : State) (params : Row) (at : ℕ) (table : Table) (q : Query) where
  abbrev command : Command
  command = Update at (record { lets = []; body = q })

  on_table : (extra : List Index) (tally : Tally) (after : Database) → OnRows (task_for extra old table params) (mode_of old) None command old.now.trees (Ok (tally, after))
      → (rows : List Row) × IsAnswer q (overlay old.now.trees []) params rows × (unwrap_or tally.rows 0 ≡ length rows)
  on_table extra tally after h =
      let all = went h in
      let told = went (went all.2).2 in
      let found = went all.1 in
      let written = went found.2 in
      let write : Row → Row = λ r. cast_row table (drop 1 r) in
      let tallied : tally.rows ≡ Some (length all.0.rows) = ap (λ (p : Tally × Database). p.0.rows) (same_value told.2) in
      let news : all.0.rows ≡ (edit_of old.now.trees table (ids_of found.0) Given 1 found.0).news = ap (λ (it : Written). it.rows) (same_value written.2) in (
        found.0,
        found.1.answer Null,
        ap (λ n. unwrap_or n 0) (tallied ∙ ap (λ rs. Some (length rs)) news)
            ∙ ap length (given (without_all (old.now.trees table.tree) (ids_of found.0)) (map write found.0)) ∙ length-map found.0 write,
      )

  updates_many : (sql : List ℕ) (new : State) (count : ℕ) → Means sql command
      → slice_get desk_schema.tables at ≡ Some table → IsReady old → Executes sql params old new (Ok count)
      → (rows : List Row) × IsAnswer q (overlay old.now.trees []) params rows × (count ≡ length rows)
  updates_many sql new count means there ready h =
      let extra = ready.schema.extra in
      let w = runs_ready sql params old new command count means ready h in
      let text = statement_of sql (understood (desk_with extra) sql) in
      let it = on_table extra w.tally new.now (rw there at (does_so text params old new command count ready w)) in
      (it.0, it.1, w.counted ∙ it.2)

abbrev pub set_params : NightRange → ℕ → ℕ → Row
set_params r allot free =
    whole r.kind ∷ Text r.supplier.now ∷ Text r.product.now ∷ whole allot ∷ whole free ∷ whole r.first ∷ whole r.last ∷ []

set_test : (r : NightRange) (allot free : ℕ) (p : ℤ × StockRow)
    → passes set_nights_query.filter (set_params r allot free) (numbered_row stock_columns p) ≡ is_within r p.1
set_test r allot free p = simp (eq_whole, eq_text, ge_whole, le_whole) (simp and_true)

set_says : (r : NightRange) (allot free : ℕ)
    → SaysUpdate set_nights_text 1 1 set_nights_query.filter set_nights_query.project (set_params r allot free)
unfolding understood everything
set_says r allot free = record { means = λ _. record { is = refl; plain = (refl, refl) }; whole = λ _. refl; types = λ _. refl }

pub sets_places : (w : NightRange) (allot free : ℕ) → Effect set_nights_text (set_params w allot free) (λ _. ⊤) (sets_nights w allot free)
    (HasRowids 0) (MaySetNights w allot free) (λ _. ⊤) (λ n. n)
sets_places w allot free =
    changes_rows (chosen stock_columns) Places.stock (inl (λ n db has. has.stock)) set_nights_query.filter set_nights_query.project
    (set_says w allot free) (is_within w) (with_both allot free) (set_test w allot free) (λ _. refl) (λ _. refl)
    (λ _. ⊤) (MaySetNights w allot free) (HasRowids 0) (λ t fits. tt) (λ t any p there is. simp cast_int)
    (λ db t room fits obeys p there row is.
    stock_fit db p.0 (with_both allot free p.1) (low_fits (db 1) (numbered_row stock_columns p) p.0 room.stock row refl) (kept_kind db p.0 p.1 obeys row)
    fits.free_is (all_has (λ (s : StockRow). is_within w s ≡ true → IsShort (length s.supplier + length s.product)) t.stock p.1 fits.short there is))
    (λ p. twin_four (stock_at 1) (numbered_row stock_columns p) (numbered_row stock_columns (p.0, with_both allot free p.1)) refl refl refl refl refl tt)

module _ (old new : State) (t : Tables) (w : NightRange) (allot free : ℕ) where
  abbrev params : Row
  params = set_params w allot free

  -- as many rows pass as nights of the range have one
  passing : (ps : List (ℤ × StockRow))
      → length (filter (passes set_nights_query.filter params) (map (numbered_row stock_columns) ps)) ≡ length (filter (is_within w) (map value_of ps))
  passing ps = search (rules, arith, filter-map, length-map, set_test)

  rows_shown : (db : Trees) → IsTableOf stock_columns (db 1) t.stock → (rows : List Row)
      → IsAnswer set_nights_query (overlay db []) params rows → length rows ≡ nights_in w t
  rows_shown db shown rows answer =
      let all = map (numbered_row stock_columns) shown.numbered in
      length_permutation _ rows (shows_any 1 set_nights_query.filter set_nights_query.project db params all rows answer shown.rows_are)
      ∙ length-map (filter (passes set_nights_query.filter params) all) (shown_of set_nights_query.project params)
      ∙ passing shown.numbered ∙ ap (λ cells. length (filter (is_within w) cells)) (sym shown.values_are)

  -- each night that has a row is counted
  pub counts_nights : (r : Result ℕ Error) → MayRun old t → ExecutesInside 0 set_nights_text params old new r
      → IfOk r (λ n. n ≡ nights_in w t)
  counts_nights (Err e) may ran = tt
  counts_nights (Ok n) may ran =
      let here = ran.1.was_open in
      let db = old.now.trees in
      let shown = (may.sees here).rows.stock in
      let it = updates_many old params 1 (stock_at 1) set_nights_query set_nights_text new n (set_says w allot free).means refl
      (ready_of old t may here) ran.0 in
      it.2 ∙ rows_shown db shown it.0 it.1
