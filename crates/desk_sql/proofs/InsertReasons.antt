-- The effect of an INSERT of one row, from what its text means and what its row obeys. For each statement that inserts.
use Rattle.std.proofs.Common.{◌≡◌, ◌<◌, ◌^◌, ℕ, ℤ, suc, pos, List, [], ◌∷◌, ◌++◌, Ok, true, false, refl, sym, subst, arith}
use Rattle.std.specs.Prelude.{⊤}
use Rattle.std.specs.List.{AllByRecursion, list_all}
use Rattle.std.proofs.lemmas.Bool.{and_from}
use Rattle.sqlite.specs.declared.types.Value.TheVariants.{Int}
use Rattle.sqlite.specs.Order.{Row}
use Rattle.sqlite.specs.Ops.{fits_i64}
use Rattle.sqlite.specs.Table.{Table}
use Rattle.sqlite.specs.Term.{Term}
use Rattle.sqlite.specs.Tree.{Trees, rowid, put_row, IsTable}
use Rattle.sqlite.specs.Edit.{next_rowid, is_taken}
use Rattle.sqlite.specs.State.{State, ExecutesInside}
use Rattle.sqlite_schema.specs.declared.schema.Constraint.TheVariants.{Datatype, NotNull, Check}
use Rattle.sqlite_schema.specs.Rules.{passes, is_key_of, Obeys}
use Rattle.sqlite_rules.proofs.ListLemmas.{has_got}
use Rattle.sqlite_typing.specs.Types.{accepts_terms}
use Rattle.desk_sql.specs.Schema.{desk_schema}
use Rattle.desk_sql.specs.Lists.{numbered_row, IsTableOf, IsNumbered}
use Rattle.desk_sql.specs.Rows.{whole, Tables, Shows}
use Rattle.desk_sql.specs.Calls.{Sees, MayRun}
use Rattle.desk_sql.specs.Writable.{AreLow, HasRowids}
use Rattle.desk_sql.proofs.Meaning.{insert}
use Rattle.desk_sql.proofs.Refusing.{write_reason, insert_goes, IsSafe}
use Rattle.desk_sql.proofs.NewRow.{AreOther, HasParents, put_edit, put_safe}
use Rattle.desk_sql.proofs.Writing.{inserts, source_edit, Edits}
use Rattle.desk_sql.proofs.Framing.{ready_of, makes_at}
use Rattle.desk_sql.proofs.Keyed.{appended, numbered_last}
use Rattle.desk_sql.proofs.Indexes.{obeys_bare}
use Rattle.desk_sql.proofs.Storing.{NeverOversized, next_fits, fits_whole, chosen_free, number_free, table_of, table_numbered}
use Rattle.desk_sql.proofs.Rowids.{IsOwn, rowids_fewer, low_put, rowids_same, rowids_kept}
use Rattle.desk_sql.proofs.Places.{Place}
use Rattle.desk_sql.proofs.Effects.{Says, Effect}

-- the trees obey the desk's schema
pub obeys_desk : (s : State) (t : Tables) → Sees s t → Obeys desk_schema s.now.trees
obeys_desk s t sees =
    obeys_bare sees.schema.extra sees.schema.are s.now.trees (subst (λ d. Obeys d s.now.trees) sees.schema.is sees.sound.obeys)

-- the text inserts one row of these terms
abbrev pub SaysInsert : List ℕ → ℕ → List Term → ℕ → Row → Type 0
SaysInsert text at terms width params = Says text (insert at terms width) params (λ _. accepts_terms terms params)

-- the row obeys each rule on a row alone and can be stored, its keys are new, and its parents are there
pub record Admits (table : Table) (db : Trees) (new : Row) : Type 0 where
  pub alone : (passes Datatype desk_schema db table new ≡ true) × (passes NotNull desk_schema db table new ≡ true)
      × (passes Check desk_schema db table new ≡ true)
  pub storable : NeverOversized table new
  pub single : AreOther table (db table.tree) new
  pub parents : HasParents table db new

-- A text inserts one row, given those that are there, and its value is appended.
module _ {X : Type 0} {at : ℕ} {table : Table} {IsRows : List Row → List X → Type 0} {values : Tables → List X}
    {with_values : Tables → List X → Tables} (place : Place at table IsRows values with_values)
    {text : List ℕ} {terms : List Term} {width : ℕ} {params : Row} (says : SaysInsert text at terms width params)
    (row : List Row → Row) (x : X) (edit_is : (db : Trees) → source_edit table terms width params db ≡ put_edit table (row (db table.tree)))
    (Seen : Tables → Type 0) (Room : Trees → Type 0) (Fits : Tables → Type 0) (taken : ℕ → ℕ) (fits_seen : (t : Tables) → Fits t → Seen t)
    (append : (rows : List Row) (t : Tables) → Seen t → IsRows rows (values t) → IsRows (put_row (row rows) rows) (values t ++ x ∷ []))
    (ordered : (rows : List Row) (xs : List X) → IsRows rows xs → IsTable rows)
    (free : (rows : List Row) (t : Tables) → Seen t → IsRows rows (values t) → is_taken rows (row rows) ≡ false)
    (id : List Row → ℤ) (keyed : (rows : List Row) → rowid (row rows) ≡ Int (id rows))
    (small : (db : Trees) → Room db → fits_i64 (id (db table.tree)) ≡ true)
    (left : (old new : State) → Edits old new (put_edit table (row (old.now.trees table.tree))) → (n : ℕ) → HasRowids (taken n) old.now.trees
    → HasRowids n new.now.trees)
    (admits : (db : Trees) (t : Tables) → Fits t → Shows db t → Admits table db (row (db table.tree))) where
  edits : (old new : State) (t : Tables) (count : ℕ) → MayRun old t → ExecutesInside 0 text params old new (Ok count)
      → Edits old new (put_edit table (row (old.now.trees table.tree)))
  edits old new t count may ran =
      subst (Edits old new) (edit_is old.now.trees)
      (inserts text params old new at table terms width count says.means place.there place.uncounted (place.unstamped params)
      (ready_of old t may ran.1.was_open) ran.0)

  safe : (s : State) (t : Tables) → Room s.now.trees → Fits t → Sees s t → IsSafe s.now.trees (put_edit table (row (s.now.trees table.tree)))
  safe s t room fits sees =
      let db = s.now.trees in
      let it = admits db t fits sees.rows in
      let rows = place.shown db t sees.rows in
      put_safe db table (row (db table.tree)) (has_got desk_schema.tables at table place.there) (ordered (db table.tree) (values t) rows)
      (obeys_desk s t sees) (record {
        typed = it.alone.0;
        present = it.alone.1;
        checked = it.alone.2;
        id = id (db table.tree);
        keyed = keyed (db table.tree);
        fits = small db room;
        storable = it.storable;
      }) (free (db table.tree) t (fits_seen t fits) rows) it.single (and_from (list_all (is_key_of desk_schema) table.references) true place.owns refl) it.parents

  inserted : Effect text params Seen (λ t. with_values t (values t ++ x ∷ [])) Room Fits (λ _. ⊤) taken
  inserted = record {
    made = λ old new t count may seen ran. (
        let db = old.now.trees in
        let shown = (may.sees ran.1.was_open).rows in
        makes_at old new (put_edit table (row (db table.tree))) (edits old new t count may ran) table.tree (put_row (row (db table.tree)) (db table.tree))
        (with_values t (values t ++ x ∷ [])) refl refl
        (place.with_rows db t shown (put_row (row (db table.tree)) (db table.tree)) (values t ++ x ∷ [])
        (append (db table.tree) t seen (place.shown db t shown))));
    reason = λ old new t e room may fits up ran. (
        let sees = may.sees up.is_open in
        write_reason text (insert at terms width) params says.means says.whole refl refl old new up sees.schema
        (insert_goes sees.schema.extra sees.schema.are old params at table terms width place.there place.uncounted (place.unstamped params)
        (says.types sees.schema.extra) up.unlimited
        (subst (IsSafe old.now.trees) (sym (edit_is old.now.trees)) (safe old t room fits sees))) e ran);
    rowids = λ old new t count may any ran. left old new (edits old new t count may ran);
  }

-- A row under the next rowid.
module _ {X : Type 0} {at : ℕ} {table : Table} {columns : X → Row} {values : Tables → List X} {with_values : Tables → List X → Tables}
    (place : Place at table (IsTableOf columns) values with_values) (low : (n : ℕ) (db : Trees) → HasRowids n db → AreLow n (db table.tree)) where
  pub adds_next : {text : List ℕ} {terms : List Term} {width : ℕ} {params : Row} → SaysInsert text at terms width params → (x : X)
      → ((db : Trees) → source_edit table terms width params db ≡ put_edit table (numbered_row columns (next_rowid (db table.tree), x)))
      → (Fits : Tables → Type 0)
      → ((db : Trees) (t : Tables) → Fits t → Shows db t → Admits table db (numbered_row columns (next_rowid (db table.tree), x)))
      → Effect text params (λ _. ⊤) (λ t. with_values t (values t ++ x ∷ [])) (HasRowids 1) Fits (λ _. ⊤) suc
  adds_next says x edit_is Fits admits =
      inserted place says (λ rows. numbered_row columns (next_rowid rows, x)) x edit_is (λ _. ⊤) (HasRowids 1) Fits suc (λ _ _. tt)
      (λ rows t any it. appended columns rows (values t) x it) (table_of columns) (λ rows t any it. chosen_free columns rows (values t) x it)
      next_rowid (λ _. refl) (λ db has. next_fits (db table.tree) (low 1 db has))
      (λ old new it n has. rowids_kept old new _ it n (rowids_fewer n (suc n) old.now.trees (omega arith) has)
      (low_put n (old.now.trees table.tree) (numbered_row columns (next_rowid (old.now.trees table.tree), x)) refl has.few (low (suc n) old.now.trees has)))
      admits

-- A row under its value's own number, which is above all others.
module _ {X : Type 0} {at : ℕ} {table : Table} {number : X → ℕ} {row_of : X → Row} {values : Tables → List X}
    {with_values : Tables → List X → Tables} (place : Place at table (IsNumbered number row_of) values with_values)
    (keyed : (x : X) → rowid (row_of x) ≡ whole (number x)) (its_own : IsOwn table) where
  pub adds_last : {text : List ℕ} {terms : List Term} {width : ℕ} {params : Row} → SaysInsert text at terms width params → (x : X)
      → number x < 2 ^ 63 → ((db : Trees) → source_edit table terms width params db ≡ put_edit table (row_of x))
      → (Seen Fits : Tables → Type 0) → ((t : Tables) → Fits t → Seen t)
      → ((t : Tables) → Seen t → AllByRecursion (λ y. number y < number x) (values t))
      → ((db : Trees) (t : Tables) → Fits t → Shows db t → Admits table db (row_of x))
      → Effect text params Seen (λ t. with_values t (values t ++ x ∷ [])) (λ _. ⊤) Fits (λ _. ⊤) (λ n. n)
  adds_last says x small edit_is Seen Fits fits_seen below admits =
      inserted place says (λ _. row_of x) x edit_is Seen (λ _. ⊤) Fits (λ n. n) fits_seen
      (λ rows t seen it. numbered_last number row_of keyed rows (values t) x it (below t seen)) (table_numbered number row_of keyed)
      (λ rows t seen it. number_free number row_of keyed rows (values t) x it (below t seen))
      (λ _. pos (number x)) (λ _. keyed x) (λ db any. fits_whole (number x) small)
      (λ old new it n has. rowids_same old new _ it n has its_own) admits
