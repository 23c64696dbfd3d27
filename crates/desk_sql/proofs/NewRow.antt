-- When the rules of SQL allow an edit: in general, and the insertion of rows. For the lemmas of each statement that writes.
use Rattle.std.proofs.Common.{◌≡◌, ◌⊎◌, inl, inr, ℕ, ℤ, List, [], ◌∷◌, filter, Option, None, Some, Bool, true, false, not, ◌&&◌, refl, sym, ap, subst, ◌∙◌, arith, nat_lt, ◌==◌, rules}
use Rattle.std.specs.List.{AllByRecursion, list_all, list_any}
use Rattle.std.proofs.lemmas.Bool.{cases_eq, and_parts, or_cases, or_left, or_right, false_from_ne_true, both_ways}
use Rattle.std.proofs.lemmas.Bool.Decides.{nat_tests}
use Rattle.std.proofs.lemmas.Cmp.{tied_itself}
use Rattle.sqlite_value.specs.declared.value.Value.TheVariants.{Int}
use Rattle.sqlite_value.proofs.OrderLemmas.{value_cmp_total}
use Rattle.sqlite_trees.specs.Tree.{Trees, rowid, with_tree, IsTable, IsAscending}
use Rattle.sqlite_trees.specs.View.{is_int}
use Rattle.sqlite_schema.specs.declared.schema.Among.TheVariants.{All}
use Rattle.sqlite_schema.specs.declared.schema.Constraint.TheVariants.{Datatype, NotNull, Check, Unique, ForeignKey}
use Rattle.sqlite_schema.specs.declared.schema.Keys.TheVariants.{Enforced}
use Rattle.sqlite_schema.specs.declared.schema.Reference.{Reference}
use Rattle.sqlite_schema.specs.declared.schema.Index.{Index}
use Rattle.sqlite_schema.specs.Rules.{passes, guards, agree, differ, clashes, has_parent, is_held, ParentKey, parent_key, Keeps, Refers, Obeys}
use Rattle.sqlite_rules.specs.declared.error.Refusal.{Refusal}
use Rattle.sqlite_rules.specs.declared.error.Refusal.TheVariants.{Violates, Mismatch, NoRowid}
use Rattle.sqlite_rules.specs.Lists.{Has}
use Rattle.sqlite_rules.specs.Edit.{IsRefused, is_taken, are_fresh, is_referred, left_by, taken_by, id_in, Edit, edited}
use Rattle.sqlite_rules.proofs.ListLemmas.{all_has, all_from, test_from, some_has, some_from, has_kept}
use Rattle.sqlite_rules.proofs.RuleLemmas.{Turns, unique_kept, origin, refers_at, refers_from}
use Rattle.sqlite_rules.proofs.EditLemmas.{turns}
use Rattle.sqlite_rules.proofs.PlaceLemmas.{named_parent}
use Rattle.sqlite.specs.Order.{Row}
use Rattle.sqlite.specs.Ops.{binary, fits_i64}
use Rattle.sqlite.specs.Table.{Table}
use Rattle.desk_sql.specs.Schema.{desk_schema}
use Rattle.desk_sql.proofs.Refusing.{IsSafe}
use Rattle.desk_sql.proofs.Storing.{NeverOversized}
use Rattle.desk_sql.proofs.Writing.{Lands}

-- The trees of the desk's tables are apart.

abbrev is_rising : List Table → Bool
is_rising [] = true
is_rising (t ∷ ts) = list_all (λ (u : Table). nat_lt t.tree u.tree) ts && is_rising ts

below : (n : ℕ) (ts : List Table) → list_all (λ (u : Table). nat_lt n u.tree) ts ≡ true → AllByRecursion (λ (u : Table). n ≡ u.tree → ⊥) ts
below n [] low = tt
below n (t ∷ ts) low = search (rules, arith, and_parts, nat_tests, below n ts)

rises : (ts : List Table) → is_rising ts ≡ true → IsAscending (λ (a b : Table). a.tree ≡ b.tree → ⊥) ts
rises [] up = tt
rises (t ∷ ts) up = let parts = and_parts (list_all (λ (u : Table). nat_lt t.tree u.tree) ts) (is_rising ts) up in (below t.tree ts parts.0, rises ts parts.1)

pub desk_apart : IsAscending (λ (a b : Table). a.tree ≡ b.tree → ⊥) desk_schema.tables
desk_apart = rises desk_schema.tables refl

-- a number does not differ from itself
pub same_number : (n : ℤ) → differ (Int n) (Int n) ≡ false
unfolding binary
same_number n = rw (tied_itself value_cmp_total (Int n)) refl

-- the row obeys each rule on a row alone, can be stored, and has a rowid that fits
pub record IsFit (table : Table) (db : Trees) (new : Row) : Type 0 where
  pub typed : passes Datatype desk_schema db table new ≡ true
  pub present : passes NotNull desk_schema db table new ≡ true
  pub checked : passes Check desk_schema db table new ≡ true
  pub id : ℤ
  pub keyed : rowid new ≡ Int id
  pub fits : fits_i64 id ≡ true
  pub storable : NeverOversized table new

-- An edit whose new rows are fit and fresh, if keys differ and each reference has its parent after it.
module _ (db : Trees) (edit : Edit) (fit : (r : Row) → Has edit.news r → IsFit edit.table db r)
    (fresh : are_fresh (left_by db edit) edit.news ≡ true) (referred : is_referred desk_schema Enforced edit ≡ true)
    (unique : (next : Trees) → Lands db edit next → Keeps Unique desk_schema next)
    (refers : (next : Trees) → Lands db edit next → Refers All desk_schema next) where
  -- the trees with the new rows
  abbrev after : Trees
  after = with_tree db edit.table.tree (edited db edit)

  alike : (n : ℕ) → (n == n) ≡ true
  alike n = grind (arith, nat_tests)

  after_lands : Lands db edit after
  after_lands = search (rules, arith, alike, all_from)

  fails : (p : Row → Bool) → ((r : Row) → IsFit edit.table db r → p r ≡ true) → list_all p edit.news ≡ false → ⊥
  fails p each h = let all = test_from p edit.news (λ r there. each r (fit r there)) in let bad = sym all ∙ h in cc

  permitted : (why : Refusal) → ¬ IsRefused desk_schema Enforced db edit why
  permitted (Violates Datatype) h = fails (passes Datatype desk_schema db edit.table) (λ r it. it.typed) h
  permitted (Violates NotNull) h = fails (passes NotNull desk_schema db edit.table) (λ r it. it.present) h
  permitted (Violates Check) h = fails (passes Check desk_schema db edit.table) (λ r it. it.checked) h
  permitted Mismatch h = fails (λ r. is_int (rowid r)) (λ r it. ap is_int it.keyed) h
  permitted NoRowid h = fails (λ r. fits_i64 (id_in (rowid r))) (λ r it. ap (λ v. fits_i64 (id_in v)) it.keyed ∙ it.fits) h
  permitted why h = search (rules, arith, after_lands, unique)

  pub edit_safe : IsSafe db edit
  edit_safe = record { permitted = permitted; storable = λ r there. (fit r there).storable; refers = refers }

-- The same, where each parent that was there is there after it, and new rows have new keys and parents.
module _ (db : Trees) (edit : Edit) (listed : Has desk_schema.tables edit.table) (ordered : IsTable (db edit.table.tree))
    (obeys : Obeys desk_schema db) (fit : (r : Row) → Has edit.news r → IsFit edit.table db r)
    (fresh : are_fresh (left_by db edit) edit.news ≡ true) (referred : is_referred desk_schema Enforced edit ≡ true)
    (single : (i : Index) → Has (filter (λ i. guards i edit.table) desk_schema.indexes) i → (r new : Row) → Has edit.news r ⊎ Has (left_by db edit) r
    → Has edit.news new → (agree i.order i.columns r i.columns new && differ (rowid r) (rowid new)) ≡ false)
    (parents : (new : Row) → Has edit.news new → AllByRecursion (λ (ref : Reference). has_parent desk_schema.tables db new ref ≡ true) edit.table.references)
    (held : (next : Trees) → Lands db edit next → Turns desk_schema db next edit.table (left_by db edit) (taken_by db edit) edit.news → (t : Table)
    (ref : Reference) (row : Row) → Has desk_schema.tables t → Has t.references ref → has_parent desk_schema.tables db row ref ≡ true
    → has_parent desk_schema.tables next row ref ≡ true) where
  turned : (next : Trees) → Lands db edit next → Turns desk_schema db next edit.table (left_by db edit) (taken_by db edit) edit.news
  turned next made = turns desk_schema db next edit desk_apart listed ordered fresh made.rows made.tables

  no_clash : (next : Trees) → Lands db edit next → (i : Index) → Has desk_schema.indexes i
      → (guards i edit.table && list_any (clashes i.order i.columns (next edit.table.tree)) edit.news) ≡ true → ⊥
  no_clash next made i known both =
      let parts = and_parts (guards i edit.table) (list_any (clashes i.order i.columns (next edit.table.tree)) edit.news) both in
      let new = some_has (clashes i.order i.columns (next edit.table.tree)) edit.news parts.1 in
      let r = some_has (λ other. agree i.order i.columns other i.columns new.0 && differ (rowid other) (rowid new.0)) (next edit.table.tree) new.2 in
      both_ways _ (single i (has_kept (λ i. guards i edit.table) desk_schema.indexes i known parts.0) r.0 new.0 ((turned next made).from r.0 r.1) new.1) r.2

  pub turn_safe : IsSafe db edit
  turn_safe = edit_safe db edit fit fresh referred
      (λ next made. unique_kept desk_schema db next edit.table (left_by db edit) (taken_by db edit) edit.news (turned next made)
      (test_from (λ i. not (guards i edit.table && list_any (clashes i.order i.columns (next edit.table.tree)) edit.news)) desk_schema.indexes
      (λ i known. ap not (false_from_ne_true _ (no_clash next made i known)))) (obeys.rules Unique))
      (λ next made. refers_from All desk_schema next (λ t ref row known of is there.
      let turn = turned next made in
      held next made turn t ref row known of (elim (origin desk_schema db next edit.table _ _ edit.news turn t row known there) [
        | inl (same, new) ↦ all_has _ edit.table.references ref (parents row new) (subst (λ (x : Table). Has x.references ref) same of)
        | inr old ↦ refers_at All desk_schema db t row ref (obeys.rules ForeignKey) known old of refl
      ])))

-- the insertion of rows
abbrev pub adds_edit : Table → List Row → Edit
adds_edit table news = record { table = table; gone = []; news = news }

-- no row has the key of this one, under any unique index of the table
abbrev pub AreOther : Table → List Row → Row → Type 0
AreOther table rows new =
    AllByRecursion (λ (i : Index). AllByRecursion (λ r. agree i.order i.columns r i.columns new ≡ false) rows) (filter (λ i. guards i table) desk_schema.indexes)

-- its references have parents
abbrev pub HasParents : Table → Trees → Row → Type 0
HasParents table db new = AllByRecursion (λ (ref : Reference). has_parent desk_schema.tables db new ref ≡ true) table.references

module _ (db : Trees) (table : Table) (news : List Row) (listed : Has desk_schema.tables table) (ordered : IsTable (db table.tree))
    (obeys : Obeys desk_schema db) (fit : (new : Row) → Has news new → IsFit table db new) (fresh : are_fresh (db table.tree) news ≡ true)
    -- no new row has the key of a row that was there, nor that of another new one
    (single : (new : Row) → Has news new → AreOther table (db table.tree) new)
    (apart : (a b : Row) → Has news a → Has news b → (a ≡ b) ⊎ AreOther table (a ∷ []) b)
    (referred : is_referred desk_schema Enforced (adds_edit table news) ≡ true) (parents : (new : Row) → Has news new → HasParents table db new) where
  keys : (i : Index) → Has (filter (λ i. guards i table) desk_schema.indexes) i → (r new : Row) → Has news r ⊎ Has (db table.tree) r → Has news new
      → (agree i.order i.columns r i.columns new && differ (rowid r) (rowid new)) ≡ false
  keys i known r new either there = search (rules, arith, same_number, false_from_ne_true, both_ways, and_parts, all_has)

  -- a parent that was there is there
  held_still : (next : Trees) → Turns desk_schema db next table (db table.tree) [] news → (ref : Reference) (row : Row)
      → has_parent desk_schema.tables db row ref ≡ true → has_parent desk_schema.tables next row ref ≡ true
  held_still next turn ref row held = elim (or_cases _ _ held) [
    | inl null ↦ or_left _ _ null
    | inr some ↦ or_right _ _ (go (parent_key desk_schema.tables ref) refl some)
  ]
    where
      stays : (t : Table) → Has desk_schema.tables t → (r : Row) → Has (db t.tree) r → Has (next t.tree) r
      stays t known r there = elim (cases_eq t.tree table.tree) [
        | inl same ↦ subst (λ n. Has (next n) r) (sym same) (turn.stays r (subst (λ n. Has (db n) r) same there))
        | inr other ↦ subst (λ rs. Has rs r) (sym (turn.others t known other)) there
      ]

      go : (key : Option ParentKey) → parent_key desk_schema.tables ref ≡ key → is_held db ref.columns row key ≡ true → is_held next ref.columns row key ≡ true
      go None is none = none
      go (Some key) is some =
          let named = named_parent desk_schema.tables ref key is in
          let parent = some_has (λ p. agree key.2 key.1 p ref.columns row) (db key.0) some in
          some_from (λ p. agree key.2 key.1 p ref.columns row) (next key.0) parent.0
          (subst (λ n. Has (next n) parent.0) named.2 (stays named.0 named.1 parent.0 (subst (λ n. Has (db n) parent.0) (sym named.2) parent.1))) parent.2

  pub rows_safe : IsSafe db (adds_edit table news)
  rows_safe = turn_safe db (adds_edit table news) listed ordered obeys fit fresh referred keys parents (λ next made turn t ref row known of. held_still next turn ref row)

-- the insertion of one row
abbrev pub put_edit : Table → Row → Edit
put_edit table new = adds_edit table (new ∷ [])

pub put_safe : (db : Trees) (table : Table) (new : Row) → Has desk_schema.tables table → IsTable (db table.tree) → Obeys desk_schema db
    → IsFit table db new → is_taken (db table.tree) new ≡ false → AreOther table (db table.tree) new
    → is_referred desk_schema Enforced (put_edit table new) ≡ true → HasParents table db new → IsSafe db (put_edit table new)
put_safe db table new listed ordered obeys fit free single referred parents =
    rows_safe db table (new ∷ []) listed ordered obeys (λ r there. subst (IsFit table db) (sym (only r there)) fit) (rw free refl)
    (λ r there. subst (AreOther table (db table.tree)) (sym (only r there)) single) (λ a b one two. inl (only a one ∙ sym (only b two))) referred
    (λ r there. subst (HasParents table db) (sym (only r there)) parents)
  where
    only : (r : Row) → Has (new ∷ []) r → r ≡ new
    only r x = search (rules, arith)
