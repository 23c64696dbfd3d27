-- The effect of an UPDATE and of the DELETE of a save-point, from what the text means and what its rows obey. For each statement that updates,
-- and for `delete_mark`.
use Rattle.std.proofs.Common.{◌≡◌, ◌≤◌, ◌+◌, ◌⊎◌, ℕ, ℤ, List, [], drop, length, inl, inr, Ok, Bool, true, ◌&&◌, refl, sym, ap, subst, ◌∙◌, arith, ◌∷◌, filter, not, nat_lt, ◌||◌, rules}
use Rattle.std.specs.List.{AllByRecursion, list_any}
use Rattle.std.proofs.lemmas.Int.{ints}
use Rattle.std.proofs.lemmas.Bool.{and_parts, and_from, or_right}
use Rattle.sqlite.specs.declared.types.Value.TheVariants.{Int}
use Rattle.sqlite.specs.Order.{Row, column}
use Rattle.sqlite.specs.Ops.{fits_i64}
use Rattle.sqlite.specs.Table.{Table}
use Rattle.sqlite.specs.Term.{Term}
use Rattle.sqlite.specs.Tree.{Trees, rowid, IsTable}
use Rattle.sqlite.specs.Query.{Query, IsAnswer}
use Rattle.sqlite.specs.Program.{overlay}
use Rattle.sqlite.specs.Cast.{cast_row}
use Rattle.sqlite.specs.Edit.{Edit, edit_of, edited}
use Rattle.sqlite.specs.Rowids.TheVariants.{Given}
use Rattle.sqlite.specs.State.{State, ExecutesInside}
use Rattle.sqlite_schema.specs.declared.schema.Constraint.TheVariants.{Check}
use Rattle.sqlite_schema.specs.declared.schema.Reference.{Reference}
use Rattle.sqlite_schema.specs.Rules.{Obeys, agree, has_null, has_parent}
use Rattle.sqlite_rules.specs.Lists.{Has}
use Rattle.sqlite_rules.specs.InPlace.{AgreeAt, Twins}
use Rattle.sqlite_rules.specs.Calls.{ids_of}
use Rattle.sqlite_rules.proofs.ListLemmas.{all_has, has_got}
use Rattle.sqlite_rules.proofs.ProbeLemmas.{mapped_has}
use Rattle.sqlite_rules.proofs.RuleLemmas.{keeps_at}
use Rattle.sqlite_typing.specs.Types.{accepts_program}
use Rattle.desk_sql.specs.Schema.{desk_schema, desk_with, stock_at, to_journey, mark_at}
use Rattle.desk_sql.specs.Lists.{numbered_row, changed}
use Rattle.desk_sql.specs.Rows.{Tables, Shows, StockRow, stock_columns, whole, mark_columns}
use Rattle.desk_sql.specs.Calls.{Sees, MayRun}
use Rattle.desk_sql.specs.Writable.{AreLow, HasRowids, IsShort}
use Rattle.desk_sql.specs.Meanings.{update, every_row, delete, delete_mark_query}
use Rattle.desk_sql.proofs.Refusing.{write_reason, update_goes, IsSafe, delete_goes}
use Rattle.desk_sql.proofs.NewRow.{IsFit, turn_safe}
use Rattle.desk_sql.proofs.ChangedRows.{update_safe}
use Rattle.desk_sql.proofs.Writing.{updates, Edits, Lands, deletes}
use Rattle.desk_sql.proofs.Framing.{ready_of, makes_at}
use Rattle.desk_sql.proofs.InsertReasons.{obeys_desk}
use Rattle.desk_sql.proofs.Reading.{passes, shown_of}
use Rattle.desk_sql.proofs.Updating.{Changes, updated, table_deleted}
use Rattle.desk_sql.proofs.Rowids.{IsOwn, low_changed, rowids_same, rowids_kept, low_without}
use Rattle.desk_sql.proofs.Storing.{storable, held_from, fits_int, is_between, range_holds, range_ends, table_of}
use Rattle.desk_sql.proofs.Effects.{Says, Effect}
use Rattle.desk_sql.proofs.Places.{Codec, Place}
use Rattle.desk_sql.proofs.Places
use Rattle.std.specs.Prelude.{⊤}
use Rattle.sqlite.specs.Listing.{understood}
use Rattle.sqlite_value.specs.Keys.{first_key, joined, plain}
use Rattle.sqlite_tied.specs.Compute.{everything}
use Rattle.desk_sql.specs.Changes.{drops_mark, is_mark_at}
use Rattle.desk_sql.specs.Texts.{delete_mark_text}
use Rattle.desk_sql.proofs.Testing.{eq_whole, and_true}

-- The effect of an UPDATE, from what its text means and what its rows obey.

-- the text replaces the rows of the tree that pass the tests by those that it shows
abbrev pub SaysUpdate : List ℕ → ℕ → ℕ → List Term → List Term → Row → Type 0
SaysUpdate text at tree tests project params =
    Says text (update at (every_row tree tests project)) params (λ extra. accepts_program (desk_with extra) [] (every_row tree tests project) params)

-- the rowids of the table are chosen by the store, or none of them is
abbrev pub Numbering : Table → Type 0
Numbering table = ((n : ℕ) (db : Trees) → HasRowids n db → AreLow n (db table.tree)) ⊎ IsOwn table

-- A text changes the values that pass a test, each under its rowid and its keys.
module _ {X Y : Type 0} {at : ℕ} {table : Table} {f : Y → Row} {id : Y → ℤ} {value : Y → X} {lift : (X → X) → Y → Y}
    {IsRows : List Row → List X → Type 0} {values : Tables → List X} {with_values : Tables → List X → Tables}
    (codec : Codec f id value lift IsRows) (place : Place at table IsRows values with_values) (rowids : Numbering table)
    {text : List ℕ} (tests project : List Term) {params : Row} (says : SaysUpdate text at table.tree tests project params)
    (test : X → Bool) (change : X → X) (test_is : (y : Y) → passes tests params (f y) ≡ test (value y))
    (id_shown : (y : Y) → rowid (shown_of project params (f y)) ≡ Int (id y)) (id_kept : (y : Y) → id (lift change y) ≡ id y)
    (Seen Fits : Tables → Type 0) (Room : Trees → Type 0) (fits_seen : (t : Tables) → Fits t → Seen t)
    (change_is : (t : Tables) → Seen t → (y : Y) → Has (values t) (value y) → test (value y) ≡ true
    → cast_row table (drop 1 (shown_of project params (f y))) ≡ f (lift change y))
    (fit : (db : Trees) (t : Tables) → Room db → Fits t → Obeys desk_schema db → (y : Y) → Has (values t) (value y)
    → Has (db table.tree) (f y) → test (value y) ≡ true → IsFit table db (f (lift change y)))
    (twin : (y : Y) → Twins desk_schema table (f y) (f (lift change y))) where
  abbrev q : Query
  q = every_row table.tree tests project

  abbrev edit : Trees → List Row → Edit
  edit db rows = edit_of db table (ids_of rows) Given 1 rows

  abbrev elements : (db : Trees) (t : Tables) → Shows db t → List Y
  elements db t shows = codec.elements (db table.tree) (values t) (place.shown db t shows)

  asks : (old new : State) (t : Tables) (count : ℕ) → MayRun old t → ExecutesInside 0 text params old new (Ok count)
      → (rows : List Row) × IsAnswer q (overlay old.now.trees []) params rows × Edits old new (edit old.now.trees rows)
  asks old new t count may ran =
      updates text params old new at table q count says.means place.there (ready_of old t may ran.1.was_open) ran.0

  changes : (db : Trees) (t : Tables) (shows : Shows db t) → Seen t
      → Changes f id db table (elements db t shows) tests project params (λ (y : Y). test (value y)) (lift change)
  changes db t shows seen = search (rules, arith)

  safe : (s : State) (t : Tables) → Room s.now.trees → Fits t → Sees s t → (rows : List Row) → IsAnswer q (overlay s.now.trees []) params rows
      → IsSafe s.now.trees (edit s.now.trees rows)
  safe s t room fits sees rows asked =
      let db = s.now.trees in
      let it = place.shown db t sees.rows in
      let obeys = obeys_desk s t sees in
      update_safe (changes db t sees.rows (fits_seen t fits)) (has_got desk_schema.tables at table place.there) obeys
      (λ y there is. fit db t room fits obeys y (codec.has (db table.tree) (values t) it y there)
      (subst (λ rs. Has rs (f y)) (sym (codec.rows_are (db table.tree) (values t) it)) (mapped_has f (elements db t sees.rows) y there)) is)
      twin place.owns place.serves rows asked

  pub changes_rows : Effect text params Seen (λ t. with_values t (changed test change (values t))) Room Fits Seen (λ n. n)
  changes_rows = record {
    made = λ old new t count may seen ran. (
        let db = old.now.trees in
        let shows = (may.sees ran.1.was_open).rows in
        let it = asks old new t count may ran in
        makes_at old new (edit db it.0) it.2 table.tree (edited db (edit db it.0)) (with_values t (changed test change (values t))) refl refl
        (place.with_rows db t shows (edited db (edit db it.0)) (changed test change (values t))
        (codec.replaced (db table.tree) (edited db (edit db it.0)) (values t) (place.shown db t shows) test change id_kept
        (updated (changes db t shows seen) it.0 it.1 it.2.applies.fresh))));
    reason = λ old new t e room may fits up ran. (
        let sees = may.sees up.is_open in
        write_reason text (update at q) params says.means says.whole refl refl old new up sees.schema
        (update_goes sees.schema.extra sees.schema.are old params table table.tree tests project up.unlimited (says.types sees.schema.extra)
        at place.there (safe old t room fits sees)) e ran);
    rowids = λ old new t count may seen ran n has. (
        let db = old.now.trees in
        let shows = (may.sees ran.1.was_open).rows in
        let it = asks old new t count may ran in
        elim rowids [
          | inl low ↦ rowids_kept old new (edit db it.0) it.2 n has (subst (AreLow n) (sym (updated (changes db t shows seen) it.0 it.1 it.2.applies.fresh))
              (low_changed f n (λ y. test (value y)) (lift change) (λ y. codec.keyed (lift change y) ∙ ap Int (id_kept y) ∙ sym (codec.keyed y))
              (elements db t shows) (subst (AreLow n) (codec.rows_are (db table.tree) (values t) (place.shown db t shows)) (low n db has))))
          | inr its_own ↦ rowids_same old new (edit db it.0) it.2 n has its_own
        ]);
  }

-- no key of the desk has a later column than the fourth
pub twin_four : (table : Table) (old new : Row) → rowid old ≡ rowid new → column old 1 ≡ column new 1 → column old 2 ≡ column new 2
    → column old 3 ≡ column new 3 → column old 4 ≡ column new 4 → AllByRecursion (λ (r : Reference). AgreeAt r.columns old new) table.references
    → Twins desk_schema table old new
twin_four table old new id one two three four parents = search (rules, arith)

-- a rowid that the store chose fits
pub low_fits : (rows : List Row) (r : Row) (n : ℤ) → AreLow 0 rows → Has rows r → rowid r ≡ Int n → fits_i64 n ≡ true
low_fits rows r n low there is = search (rules, arith, all_has, fits_int, ints)

-- a row of stock whose free places are at most its allotment
pub stock_fit : (db : Trees) (id : ℤ) (s : StockRow) → fits_i64 id ≡ true → is_between s.kind 0 3 ≡ true
    → s.free ≤ s.allot → IsShort (length s.supplier + length s.product) → IsFit (stock_at 1) db (numbered_row stock_columns (id, s))
stock_fit db id s fits kind low short =
    let second : (is_between s.free 0 s.allot && true) ≡ true = rw (range_holds s.free 0 s.allot (omega arith) low) refl in
    record {
      typed = refl;
      present = refl;
      checked = and_from (is_between s.kind 0 3) (is_between s.free 0 s.allot && true) kind second;
      id = id;
      keyed = refl;
      fits = fits;
      storable = held_from (stock_at 1) (numbered_row stock_columns (id, s)) (storable _ (numbered_row stock_columns (id, s)) refl refl (omega (arith, short)), omega arith)
          (storable _ _ refl refl (omega (arith, short)), tt) tt;
    }

-- the kind of a row of stock is in range
pub kept_kind : (db : Trees) (id : ℤ) (s : StockRow) → Obeys desk_schema db → Has (db 1) (numbered_row stock_columns (id, s)) → is_between s.kind 0 3 ≡ true
kept_kind db id s obeys there =
    (and_parts (is_between s.kind 0 3) (is_between s.free 0 s.allot && true)
    (keeps_at Check desk_schema db (stock_at 1) (numbered_row stock_columns (id, s)) (obeys.rules Check) (inr (inl refl)) there)).0

-- the free places of a row are at most its allotment
pub allotted : (db : Trees) (id : ℤ) (s : StockRow) → Obeys desk_schema db → Has (db 1) (numbered_row stock_columns (id, s)) → s.free ≤ s.allot
allotted db id s obeys there =
    let was = keeps_at Check desk_schema db (stock_at 1) (numbered_row stock_columns (id, s)) (obeys.rules Check) (inr (inl refl)) there in
    range_ends s.free 0 s.allot (and_parts (is_between s.free 0 s.allot) true (and_parts (is_between s.kind 0 3) (is_between s.free 0 s.allot && true) was).1).0

-- The DELETE of a save-point: no rule refuses the removal of a row that no other row refers to.

-- only journeys are parents
parent_same : (one two : Trees) (row : Row) (at : ℕ) → one 6 ≡ two 6
    → has_parent desk_schema.tables one row (to_journey at) ≡ has_parent desk_schema.tables two row (to_journey at)
unfolding everything first_key joined
parent_same one two row at same = ap (λ rows. has_null (at ∷ []) row || list_any (λ parent. agree plain (0 ∷ []) parent (at ∷ []) row) rows) same

parents_same : (one two : Trees) (row : Row) → one 6 ≡ two 6
    → AllByRecursion (λ (t : Table). AllByRecursion (λ (ref : Reference). has_parent desk_schema.tables one row ref ≡ has_parent desk_schema.tables two row ref) t.references) desk_schema.tables
parents_same one two row same = search (rules, arith, parent_same)

-- these save-points are deleted
abbrev mark_edit : Trees → List Row → Edit
mark_edit db rows = edit_of db (mark_at 14) (ids_of rows) Given 0 []

module _ (db : Trees) (rows : List Row) (ordered : IsTable (db 14)) (obeys : Obeys desk_schema db) where
  mark_held : (next : Trees) → Lands db (mark_edit db rows) next → (t : Table) (ref : Reference) (row : Row) → Has desk_schema.tables t → Has t.references ref
      → has_parent desk_schema.tables db row ref ≡ true → has_parent desk_schema.tables next row ref ≡ true
  mark_held next made t ref row known of had =
      let journeys : next 6 ≡ db 6 = made.tables.1.1.1.0 (λ same. (let bad : 6 ≡ 14 = same in omega (arith, bad))) in
      all_has (λ (r : Reference). has_parent desk_schema.tables next row r ≡ has_parent desk_schema.tables db row r) t.references ref
      (all_has (λ (u : Table). AllByRecursion (λ (r : Reference). has_parent desk_schema.tables next row r ≡ has_parent desk_schema.tables db row r) u.references)
      desk_schema.tables t (parents_same next db row journeys) known) of ∙ had

  pub delete_safe : IsSafe db (mark_edit db rows)
  delete_safe = turn_safe db (mark_edit db rows) (inr (inr (inr (inr (inr (inr (inr (inr (inl refl))))))))) ordered obeys (λ r none. absurd none) refl
      (or_right (not (nat_lt 0 (length (ids_of rows)))) _ Places.marks.serves) (λ i known r new there none. absurd none) (λ new none. absurd none)
      (λ next made turn. mark_held next made)

abbrev place_params : ℕ → ℕ → Row
place_params journey at = whole journey ∷ whole at ∷ []

place_says : (journey at : ℕ) → Says delete_mark_text (delete 8 delete_mark_query) (place_params journey at)
    (λ extra. accepts_program (desk_with extra) [] delete_mark_query (place_params journey at))
unfolding understood everything
place_says journey at = record { means = λ _. record { is = refl; plain = (refl, refl) }; whole = λ _. refl; types = λ _. refl }

pub drops : (journey at : ℕ) → Effect delete_mark_text (place_params journey at) (λ _. ⊤) (drops_mark journey at) (λ _. ⊤) (λ _. ⊤) (λ _. ⊤) (λ n. n)
drops journey at =
    let params = place_params journey at in
    let says = place_says journey at in
    record {
      made = λ old new t count may any ran. (
          let db = old.now.trees in
          let shown = (may.sees ran.1.was_open).rows in
          let it = deletes delete_mark_text params old new 8 (mark_at 14) delete_mark_query count says.means refl
          (ready_of old t may ran.1.was_open) ran.0 in
          makes_at old new (mark_edit db it.0) it.2 14 (edited db (mark_edit db it.0)) (drops_mark journey at t) refl refl
          (Places.marks.with_rows db t shown (edited db (mark_edit db it.0)) (filter (λ m. not (is_mark_at journey at m)) t.mark)
          (table_deleted mark_columns db (mark_at 14) t.mark shown.mark refl delete_mark_query.filter delete_mark_query.project params it.0
          (is_mark_at journey at) (λ p. simp eq_whole (simp and_true)) (λ _. refl) it.1)));
      reason = λ old new t e room may any up ran. (
          let sees = may.sees up.is_open in
          write_reason delete_mark_text (delete 8 delete_mark_query) params says.means says.whole refl refl old new up sees.schema
          (delete_goes sees.schema.extra sees.schema.are old params (mark_at 14) 14 delete_mark_query.filter delete_mark_query.project up.unlimited
          (says.types sees.schema.extra) 8 refl
          (λ rows asked. delete_safe old.now.trees rows (table_of mark_columns (old.now.trees 14) t.mark sees.rows.mark) (obeys_desk old t sees))) e ran);
      rowids = λ old new t count may any ran n has. (
          let db = old.now.trees in
          let it = deletes delete_mark_text params old new 8 (mark_at 14) delete_mark_query count says.means refl
          (ready_of old t may ran.1.was_open) ran.0 in
          rowids_kept old new (mark_edit db it.0) it.2 n has (low_without n (db 14) (ids_of it.0) has.mark));
    }
