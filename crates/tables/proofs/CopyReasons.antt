-- Why the statement that copies a range of items fails. For copy_items.
use Rattle.std.proofs.Common.{◌≡◌, ◌<◌, ◌≤◌, ◌^◌, ◌∙◌, inl, inr, ℕ, List, [], ◌++◌, length, map, filter, drop, true, Option, None, Ok, Err, refl, sym, ap, subst, arith, nat_le, rules}
use Rattle.std.proofs.lemmas.Bool.{and_parts, leb-true}
use Rattle.sqlite.specs.declared.types.Value.TheVariants.{Null}
use Rattle.sqlite.specs.declared.error.Error.{Error}
use Rattle.sqlite.specs.Order.{Row}
use Rattle.sqlite.specs.Tree.{Trees}
use Rattle.sqlite.specs.Cast.{cast_row}
use Rattle.sqlite.specs.Source.TheVariants as source
use Rattle.sqlite.specs.Rowids.TheVariants.{Chosen}
use Rattle.sqlite.specs.Query.{IsAnswer}
use Rattle.sqlite.specs.Program.{QueryOverflows, overlay}
use Rattle.sqlite.specs.Rows.{Written, Inserts, Sourced}
use Rattle.sqlite.specs.Does.{Does, WritesRows}
use Rattle.sqlite.specs.Listing.{understood}
use Rattle.sqlite.specs.State.{State, mode_of, ExecutesInside}
use Rattle.sqlite_schema.specs.declared.program.Program.{Program}
use Rattle.sqlite_schema.specs.declared.schema.Among.TheVariants.{All}
use Rattle.sqlite_schema.specs.Rules.{Refers, has_parent}
use Rattle.sqlite_rules.specs.Edit.{numbered, are_fresh}
use Rattle.sqlite_rules.specs.Lists.{Has}
use Rattle.sqlite_rules.proofs.ListLemmas.{has_filtered}
use Rattle.sqlite_rules.proofs.ProbeLemmas.{has_mapped, mapped_has}
use Rattle.sqlite_trees.proofs.ListLemmas.{ascending-filter}
use Rattle.sqlite_typing.specs.Types.{accepts_program}
use Rattle.sqlite_tied.specs.Compute.{everything}
use Rattle.std.specs.List.{AllByRecursion}
use Rattle.sqlite_schema.specs.declared.schema.Index.{Index}
use Rattle.desk_sql.specs.Schema.{desk_schema, desk_with, IsExtra, entry2_at, to_journey}
use Rattle.desk_sql.specs.Rows.{Tables, EntryRow, entry_row}
use Rattle.desk_sql.specs.Causes.{IsUp, HasReason}
use Rattle.desk_sql.proofs.Causing.{takes}
use Rattle.desk_sql.proofs.InsertReasons.{obeys_desk}
use Rattle.desk_sql.proofs.NewRow.{IsFit}
use Rattle.desk_sql.proofs.Refusing.{write_reason, edit_goes, made_refers, rows_go, gives_on, desk_at, IsSafe}
use Rattle.desk_sql.proofs.Storing.{table_numbered}
use Rattle.desk_sql.proofs.Writing.{task_for}
use Rattle.tables.specs.Statements.{copy_items_text, copy_items_query, copy_items_command}
use Rattle.tables.specs.Copying.{HasCopied, with_items_below, items_below}
use Rattle.tables.proofs.Ranges.{is_between, Rises, items_below-next}
use Rattle.tables.proofs.Filling.{copy_items_means, program_edit, query_edits, range_params, range_rows, stored, own_rowids}
use Rattle.tables.proofs.NewItems.{item_fits, item_parent, fresh_after, items_edit, items_safe}

-- The query.

copy_takes : (first last : ℕ) (extra : List Index)
    → takes (length copy_items_text) (length (range_params first last)) (understood (desk_with extra) copy_items_text) ≡ true
unfolding understood everything
copy_takes first last extra = refl

copy_typed : (first last : ℕ) (extra : List Index) → accepts_program (desk_with extra) [] copy_items_query (range_params first last) ≡ true
unfolding everything
copy_typed first last extra = refl

-- it has no sums, so none overflows
no_overflow : (db : Trees) (params : Row) → ¬ QueryOverflows copy_items_query db params
no_overflow db params it = search (rules, arith)

abbrev copy_program : Program
copy_program = record { lets = []; body = copy_items_query }

-- The statement is run, if the edit of its rows is safe.
module _ (extra : List Index) (are : AllByRecursion IsExtra extra) (first last : ℕ) (old : State) (unlimited : old.step_limit ≡ None)
    (safe : (rows : List Row) → IsAnswer copy_items_query (overlay old.now.trees []) (range_params first last) rows
    → IsSafe old.now.trees (program_edit (entry2_at 13) old.now.trees rows)) where
  sourced : (stopped : Option Error) → ¬ Sourced old.step_limit (desk_at extra old) (range_params first last) (source.Query copy_program) (Err stopped)
  sourced stopped none = search (rules, arith, copy_typed, no_overflow, range_params)

  inserts : (s : Option Error) → ¬ Inserts (task_for extra old (entry2_at 13) (range_params first last)) (source.Query copy_program) old.now.trees (Err s)
  inserts s (inl k) = sourced k.0 k.1
  inserts s (inr (rows, given, inl k)) = gives_on k.0 k.1
  inserts s (inr (rows, given, inr (counter, none, inl k))) =
      edit_goes extra are old.now.trees (program_edit (entry2_at 13) old.now.trees rows) (safe rows (given.answer Null)) k.0 k.1
  inserts s (inr (rows, given, inr (counter, none, inr (mid, edited, inl k)))) = gives_on k.0 k.1
  inserts s (inr (rows, given, inr (counter, none, inr (mid, edited, inr k)))) = gives_on s k.2

  refers : (w : Written) → WritesRows (task_for extra old (entry2_at 13) (range_params first last)) old.now.trees copy_items_command (Ok w)
      → Refers All desk_schema w.trees
  refers w done =
      let found = query_edits (task_for extra old (entry2_at 13) (range_params first last)) copy_items_query old.now.trees w refl refl done in
      made_refers extra are old.now.trees w.trees (program_edit (entry2_at 13) old.now.trees found.0) (safe found.0 found.1) found.2

  copy_goes : (text : List ℕ) (stop : Option Error)
      → ¬ Does old.step_limit (mode_of old) (range_params first last) (desk_at extra old) text None copy_items_command (Err stop)
  copy_goes text stop h = rows_go extra are old (range_params first last) (entry2_at 13) copy_items_command stop inserts refers h

-- The rows.

-- a row of an item that the old table has, and whose number fits
record IsOld (db : Trees) (row : Row) : Type 0 where
  pub item : EntryRow
  pub there : Has (db 10) (entry_row item)
  pub small_number : item.num < 2 ^ 63
  pub row_is : row ≡ entry_row item

module _ (first last : ℕ) (order : first ≤ last) (small : last < 2 ^ 63) (old : State) (t : Tables) (has : HasCopied first old t) where
  abbrev db : Trees
  db = old.now.trees

  -- the items of the range
  abbrev some : List EntryRow
  some = filter (is_between first last) t.entries

  of_range : (row : Row) → Has (map entry_row some) row → IsOld db row
  of_range row new =
      let e = has_mapped entry_row some row new in
      let kept = has_filtered (is_between first last) t.entries e.0 e.1 in
      let low : e.0.num ≤ last = leb-true e.0.num last (and_parts (nat_le first e.0.num) (nat_le e.0.num last) kept.1).1 in
      record {
        item = e.0;
        there = rw has.all.rows_are (mapped_has entry_row t.entries e.0 kept.0);
        small_number = omega (arith, low, small);
        row_is = e.2;
      }

  rise : Rises (items_below first t.entries ++ some)
  rise = subst Rises (sym (items_below-next first last order t.entries has.all.rise)) (ascending-filter _ _ t.entries has.all.rise)

  -- no rule of the tables refuses them
  safe_items : IsSafe db (items_edit (map entry_row some))
  safe_items =
      let obeys = obeys_desk old (with_items_below first t) has.sees in
      let shown = has.sees.rows.entries in
      items_safe db (map entry_row some)
      (table_numbered (λ (e : EntryRow). e.num) entry_row (λ _. refl) (db 13) (items_below first t.entries) shown) obeys
      (λ row new. (let it = of_range row new in
      subst (IsFit (entry2_at 13) db) (sym it.row_is) (item_fits db it.item obeys it.there it.small_number)))
      (subst (λ rs. are_fresh rs (map entry_row some) ≡ true) (sym shown.rows_are) (fresh_after (items_below first t.entries) some rise))
      (λ row new. (let it = of_range row new in
      subst (λ r. has_parent desk_schema.tables db r (to_journey 2) ≡ true) (sym it.row_is) (item_parent db it.item obeys it.there)))

  safe_range : (rows : List Row) → IsAnswer copy_items_query (overlay db []) (range_params first last) rows
      → IsSafe db (program_edit (entry2_at 13) db rows)
  safe_range rows answer =
      let given = range_rows first last db t.entries rows has.all answer in
      let news : (program_edit (entry2_at 13) db rows).news ≡ map entry_row some
      = ap (λ rs. numbered Chosen (db 13) (map (λ s. cast_row (entry2_at 13) (drop 0 s)) rs)) given
      ∙ ap (numbered Chosen (db 13)) (stored some)
      ∙ own_rowids (db 13) some in
      subst (λ ns. IsSafe db (items_edit ns)) (sym news) safe_items

  -- so it fails out of memory, or where the disk failed or refused
  pub copy_reason : (new : State) (e : Error) → IsUp old → ExecutesInside 0 copy_items_text (range_params first last) old new (Err e)
      → HasReason old new e
  copy_reason new e up ran =
      write_reason copy_items_text copy_items_command (range_params first last) copy_items_means
      (copy_takes first last) refl refl old new up has.sees.schema
      (copy_goes has.sees.schema.extra has.sees.schema.are first last old up.unlimited safe_range) e ran
