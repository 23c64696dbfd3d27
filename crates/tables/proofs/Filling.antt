-- How the statement that copies a range of items changes entry2.
use Rattle.std.proofs.Common.{◌≡◌, ◌<ℤ◌, ◌<◌, ◌≤◌, ◌+◌, ℕ, pos, List, [], ◌∷◌, ◌++◌, map, filter, drop, false, Ok, Result, OnOk, refl, sym, ap, subst, ◌∙◌, inl, inr, arith, append-nil, append_assoc, rules}
use Rattle.std.proofs.lemmas.Int.{ints}
use Rattle.std.specs.List.{AllByRecursion}
use Rattle.sqlite.specs.declared.types.Value.TheVariants.{Null}
use Rattle.sqlite.specs.declared.error.Error.{Error}
use Rattle.sqlite.specs.Order.{Row}
use Rattle.sqlite.specs.Table.{Table}
use Rattle.sqlite.specs.Tree.{Trees, put_row}
use Rattle.sqlite.specs.Cast.{cast_row}
use Rattle.sqlite.specs.Source.TheVariants as source
use Rattle.sqlite.specs.Edit.{Edit, edit_of, edited}
use Rattle.sqlite.specs.Rowids.TheVariants.{Chosen}
use Rattle.sqlite.specs.Query.{Query, Output, IsAnswer, output_cmp}
use Rattle.sqlite.specs.Program.{overlay}
use Rattle.sqlite.specs.Rows.{Written, Task, Inserts, Edited, stamped}
use Rattle.sqlite.specs.Listing.{understood}
use Rattle.sqlite.specs.State.{State, ExecutesInside, Executes}
use Rattle.sqlite.proofs.Callers.{statement_of}
use Rattle.sqlite_rules.specs.Edit.{numbered, put_all}
use Rattle.sqlite_rules.specs.Lists.{Has}
use Rattle.sqlite_rules.proofs.ListLemmas.{all_has}
use Rattle.sqlite_trees.specs.Tree.{IsAscending}
use Rattle.sqlite_trees.proofs.ListLemmas.{ascending-filter, ascending_weaker}
use Rattle.sqlite_tied.specs.Compute.{everything}
use Rattle.desk_sql.specs.Schema.{desk_with, entry2_at}
use Rattle.desk_sql.specs.Lists.{IsNumbered}
use Rattle.desk_sql.specs.Rows.{Tables, EntryRow, entry_row, whole}
use Rattle.desk_sql.specs.Calls.{IsReady}
use Rattle.desk_sql.proofs.Meaning.{Means}
use Rattle.desk_sql.proofs.Writing.{Edits, went, same_value, on_rows, does_so, edits_so, runs_ready, task_for, cast_null}
use Rattle.desk_sql.proofs.Inserting.{cast_int}
use Rattle.desk_sql.proofs.Framing.{makes_at, with_entries}
use Rattle.desk_sql.proofs.Testing.{ge_whole, le_whole, and_true}
use Rattle.desk_sql.proofs.Ordered.{whole_last}
use Rattle.desk_sql.proofs.Reading.{passes}
use Rattle.desk_sql.proofs.Answering.{numbered_answers}
use Rattle.desk_sql.proofs.Ascending.{IsUpTo, output_total}
use Rattle.desk_sql.proofs.Keyed.{put_last}
use Rattle.desk_sql.proofs.OneList.{one_list}
use Rattle.tables.specs.Statements.{copy_items_text, range_query, copy_items_query, copy_items_command}
use Rattle.tables.specs.Copying.{HasCopied, items_below}
use Rattle.tables.proofs.Ranges.{is_between, Rises, items_below-next}

-- The text.

pub copy_items_means : Means copy_items_text copy_items_command
unfolding understood everything
copy_items_means extra = record { is = refl; plain = (refl, refl) }

-- The edit.

abbrev pub program_edit : Table → Trees → List Row → Edit
program_edit table db rows = edit_of db table [] Chosen 0 rows

-- one edit inserts all rows of a query
pub query_edits : (task : Task) (q : Query) (db : Trees) (w : Written) → task.table.is_counted ≡ false → stamped task.table task.params ≡ task.params
    → Inserts task (source.Query (record { lets = []; body = q })) db (Ok w)
    → (rows : List Row) × IsAnswer q (overlay db []) task.params rows × Edited task.schema task.keys db (program_edit task.table db rows) (Ok w.trees)
query_edits task q db w uncounted unstamped h = search (rules, arith, went, same_value)

copies_rows : (params : Row) (old new : State) (count : ℕ) → stamped (entry2_at 13) params ≡ params → IsReady old → Executes copy_items_text params old new (Ok count)
    → (rows : List Row) × IsAnswer copy_items_query (overlay old.now.trees []) params rows × Edits old new (program_edit (entry2_at 13) old.now.trees rows)
copies_rows params old new count unstamped ready h =
    let table = entry2_at 13 in
    let extra = ready.schema.extra in
    let w = runs_ready copy_items_text params old new copy_items_command count copy_items_means ready h in
    let text = statement_of copy_items_text (understood (desk_with extra) copy_items_text) in
    let done = on_rows extra old params text table w.tally new.now copy_items_command (does_so text params old new copy_items_command count ready w) in
    let found = query_edits (task_for extra old table params) copy_items_query old.now.trees done.0 refl unstamped done.1 in
    let edit = program_edit table old.now.trees found.0 in
    (found.0, found.1, edits_so text params old new copy_items_command count ready w edit done.0 done.2 done.0.trees refl found.2)

-- The rows.

abbrev pub range_params : ℕ → ℕ → Row
range_params first last = whole first ∷ whole last ∷ []

abbrev pub item_out : EntryRow → Output
item_out e = (whole e.num ∷ [], whole e.num ∷ Null ∷ whole e.journey ∷ whole e.item ∷ whole e.a ∷ whole e.b ∷ [])

range_test : (first last : ℕ) (e : EntryRow) → passes range_query.filter (range_params first last) (entry_row e) ≡ is_between first last e
range_test first last e = simp (ge_whole, le_whole) (simp and_true)

as_plain : (db : Trees) (params : Row) (rows : List Row) → IsAnswer copy_items_query (overlay db []) params rows → IsAnswer range_query (overlay db []) params rows
as_plain db params rows a = search (rules, arith)

-- the rows of the query are the items of the range, in their order
pub range_rows : (first last : ℕ) (db : Trees) (items : List EntryRow) (rows : List Row) → IsNumbered (λ (e : EntryRow). e.num) entry_row (db 10) items
    → IsAnswer copy_items_query (overlay db []) (range_params first last) rows
    → rows ≡ map (λ e. (item_out e).1) (filter (is_between first last) items)
range_rows first last db items rows table answer =
    let plain : IsAnswer range_query (overlay db []) (range_params first last) rows = as_plain db (range_params first last) rows answer in
    let some = filter (is_between first last) items in
    let it = numbered_answers 10 range_query.filter range_query.project range_query.order db (range_params first last) rows plain refl
    (λ (e : EntryRow). e.num) entry_row items table (is_between first last) (range_test first last) in
    let up : IsAscending (λ (a b : EntryRow). a.num ≤ b.num) it.values
    = ascending_weaker (λ (a b : EntryRow). IsUpTo (output_cmp range_query) (output_total range_query) (item_out a) (item_out b)) (λ (a b : EntryRow). a.num ≤ b.num) (λ a b low. whole_last a.num b.num low) it.values it.rising in
    let one : it.values ≡ some = one_list (λ (e : EntryRow). e.num) some it.values (ascending-filter _ (is_between first last) items table.rise) it.same up in
    it.rows_are ∙ ap (map (λ e. (item_out e).1)) one

-- a row of the query is stored as the item's own
pub stored : (items : List EntryRow) → map (λ s. cast_row (entry2_at 13) (drop 0 s)) (map (λ e. (item_out e).1) items) ≡ map entry_row items
stored [] = refl
stored (e ∷ items) = rw (stored items) (ap (λ r. r ∷ map entry_row items) (let one : cast_row (entry2_at 13) ((item_out e).1) ≡ entry_row e = simp (cast_int, cast_null) in one))

-- each row has its own rowid
pub own_rowids : (rows : List Row) (items : List EntryRow) → numbered Chosen rows (map entry_row items) ≡ map entry_row items
own_rowids rows [] = refl
own_rowids rows (e ∷ items) = ap (λ r. entry_row e ∷ r) (own_rowids (put_row (entry_row e) rows) items)

-- in a rising list the first elements are below the later ones
pub first_below : (xs : List EntryRow) (y : EntryRow) (ys : List EntryRow) → Rises (xs ++ y ∷ ys) → AllByRecursion (λ (x : EntryRow). pos x.num <ℤ pos y.num) xs
first_below [] y ys rise = tt
first_below (x ∷ xs) y ys rise =
    (let low = all_has (λ (z : EntryRow). x.num < z.num) (xs ++ y ∷ ys) y rise.0 (has_mid xs) in omega (arith, ints, low), first_below xs y ys rise.1)
  where
    has_mid : (zs : List EntryRow) → Has (zs ++ y ∷ ys) y
    has_mid [] = inl refl
    has_mid (z ∷ zs) = inr (has_mid zs)

-- rows that rise above those already there are appended
put_after : (xs ys : List EntryRow) → Rises (xs ++ ys) → put_all (map entry_row xs) (map entry_row ys) ≡ map entry_row (xs ++ ys)
put_after xs [] rise = ap (map entry_row) (sym (append-nil xs))
put_after xs (y ∷ ys) rise =
    ap (λ rows. put_all rows (map entry_row ys)) (put_last entry_row (λ (e : EntryRow). pos e.num) (λ _. refl) xs y (first_below xs y ys rise))
    ∙ put_after (xs ++ y ∷ []) ys (subst Rises (sym (append_assoc xs (y ∷ []) ys)) rise)
    ∙ ap (map entry_row) (append_assoc xs (y ∷ []) ys)

-- the range is appended to the items already there
filled : (first last : ℕ) → first ≤ last → (db : Trees) (items : List EntryRow) (rows : List Row) → IsNumbered (λ (e : EntryRow). e.num) entry_row (db 10) items
    → db 13 ≡ map entry_row (items_below first items)
    → IsAnswer copy_items_query (overlay db []) (range_params first last) rows
    → edited db (program_edit (entry2_at 13) db rows) ≡ map entry_row (items_below (last + 1) items)
filled first last order db items rows table there answer =
    let some = filter (is_between first last) items in
    let next = items_below-next first last order items table.rise in
    let given = range_rows first last db items rows table answer in
    let rise : Rises (items_below first items ++ some) = subst Rises (sym next) (ascending-filter _ _ items table.rise) in
    ap (λ rs. put_all (db 13) (numbered Chosen (db 13) (map (λ s. cast_row (entry2_at 13) (drop 0 s)) rs))) given
    ∙ ap (λ rs. put_all (db 13) (numbered Chosen (db 13) rs)) (stored some)
    ∙ ap (put_all (db 13)) (own_rowids (db 13) some)
    ∙ ap (λ rs. put_all rs (map entry_row some)) there
    ∙ put_after (items_below first items) some rise
    ∙ ap (map entry_row) next

-- one more range is copied, and the other rows are as they were
pub copies_range : (first last : ℕ) (old new : State) (t : Tables) (r : Result ℕ Error) → first ≤ last → HasCopied first old t
    → ExecutesInside 0 copy_items_text (range_params first last) old new r → OnOk r (HasCopied (last + 1) new t)
copies_range first last old new t r order has ran = search (
  rules,
  arith,
  copies_rows,
  filled,
  makes_at,
  with_entries,
  ascending-filter,
)
