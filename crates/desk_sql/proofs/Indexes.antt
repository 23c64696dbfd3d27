-- What indexes beside those of the keys do not change: the rules, the references and the conflicts of rows. For Writing and Refusing.
use Rattle.std.proofs.Common.{◌≡◌, inl, inr, ℕ, List, [], ◌∷◌, ◌++◌, Option, Bool, true, false, not, ◌&&◌, refl, sym, ap, ◌∙◌, length, ◌||◌, arith, rules}
use Rattle.std.specs.List.{AllByRecursion, list_all, list_any}
use Rattle.std.proofs.lemmas.Bool.{and_parts, and_from, or_cases, or_left, or_right, false_from_ne_true}
use Rattle.sqlite.specs.Order.{Row}
use Rattle.sqlite.specs.Table.{Table}
use Rattle.sqlite_trees.specs.Tree.{Trees, with_tree}
use Rattle.sqlite_schema.specs.declared.schema.Constraint.TheVariants.{Datatype, NotNull, Check, PrimaryKey, Unique, ForeignKey}
use Rattle.sqlite_schema.specs.declared.schema.Keys.TheVariants.{Enforced}
use Rattle.sqlite_schema.specs.declared.schema.Reference.{Reference}
use Rattle.sqlite_schema.specs.declared.schema.Index.{Index}
use Rattle.sqlite_schema.specs.Rules.{guards, clashes, is_key_of, is_key_if_to, is_unique_key, ParentKey, parent_key, agree, Keeps, Obeys}
use Rattle.sqlite_rules.specs.declared.error.Refusal.{Refusal}
use Rattle.sqlite_rules.specs.declared.error.Refusal.TheVariants.{Violates, BadReference}
use Rattle.sqlite_rules.specs.Edit.{Edit, edited, IsRefused, is_referred}
use Rattle.sqlite_rules.specs.Keys.{conflicts, aims, shares, AreConflicts}
use Rattle.sqlite_value.specs.Keys.{plain as plain_key}
use Rattle.sqlite_rules.proofs.ListLemmas.{all_has, all_from, has_either, has_left, some_from, some_has, test_from, test_has}
use Rattle.desk_sql.specs.Schema.{desk_schema, desk_with, IsExtra}
use Rattle.sqlite_rules.proofs.RuleLemmas.{keeps_at, keeps_from}

test_weaker : {X : Type 0} (p q : X → Bool) (xs : List X) → ((x : X) → p x ≡ true → q x ≡ true) → list_all p xs ≡ true → list_all q xs ≡ true
test_weaker p q xs so all = test_from q xs (λ x there. so x (test_has p xs x all there))

any_alone : {X : Type 0} (p : X → Bool) (xs ys : List X) → list_any p ys ≡ false → list_any p (xs ++ ys) ≡ list_any p xs
any_alone p [] ys none = none
any_alone p (x ∷ xs) ys none = ap (λ b. p x || b) (any_alone p xs ys none)

module _ (extra : List Index) (are : AllByRecursion IsExtra extra) where
  -- Keys. An index that is no key guards no rows.

  abbrev passes_by : Trees → Table → Row → Index → Bool
  passes_by db t row i = not (guards i t && clashes i.order i.columns (db t.tree) row)

  unique_fewer : (db : Trees) → Keeps Unique (desk_with extra) db → Keeps Unique desk_schema db
  unique_fewer db keeps = keeps_from Unique desk_schema db (λ t row known there. test_from (passes_by db t row) desk_schema.indexes (λ i key.
      test_has (passes_by db t row) (desk_with extra).indexes i (keeps_at Unique (desk_with extra) db t row keeps known there) (has_left desk_schema.indexes extra i key)))

  pub unique_more : (db : Trees) → Keeps Unique desk_schema db → Keeps Unique (desk_with extra) db
  unique_more db keeps = keeps_from Unique (desk_with extra) db (λ t row known there. test_from (passes_by db t row) (desk_with extra).indexes (λ i listed.
      elim (has_either desk_schema.indexes extra i listed) [
        | inl key ↦ test_has (passes_by db t row) desk_schema.indexes i (keeps_at Unique desk_schema db t row keeps known there) key
        | inr other ↦ (let plain = (all_has IsExtra extra i are other).plain in rw plain refl)
      ]))

  -- trees that obey the schema obey that without these indexes
  pub obeys_bare : (db : Trees) → Obeys (desk_with extra) db → Obeys desk_schema db
  obeys_bare db it = record {
    rules = rules;
    indexed = all_from _ desk_schema.indexes (λ i key. all_has _ (desk_with extra).indexes i it.indexed (has_left desk_schema.indexes extra i key));
  }
    where
      rules : (rule : _) → Keeps rule desk_schema db
      rules Datatype = it.rules Datatype
      rules NotNull = it.rules NotNull
      rules Check = it.rules Check
      rules PrimaryKey = it.rules PrimaryKey
      rules Unique = unique_fewer db (it.rules Unique)
      rules ForeignKey = it.rules ForeignKey

  -- References.

  either_more : (b p q : Bool) → (p ≡ true → q ≡ true) → (b || p) ≡ true → (b || q) ≡ true
  either_more b p q so it = elim (or_cases b p it) [ inl here ↦ or_left b q here | inr more ↦ or_right b q (so more) ]

  key_more : (ref : Reference) → is_key_of desk_schema ref ≡ true → is_key_of (desk_with extra) ref ≡ true
  key_more ref it = found_more (length ref.columns) (parent_key desk_schema.tables ref) it
    where
      found_more : (width : ℕ) (key : Option ParentKey) → is_unique_key desk_schema.indexes width key ≡ true
          → is_unique_key (desk_with extra).indexes width key ≡ true
      found_more width key it = search (rules, arith, and_parts, and_from, either_more, some_has, some_from, has_left)

  to_more : (table : Table) (ref : Reference) → is_key_if_to desk_schema table ref ≡ true → is_key_if_to (desk_with extra) table ref ≡ true
  to_more table ref it = either_more _ (is_key_of desk_schema ref) (is_key_of (desk_with extra) ref) (key_more ref) it

  referred_more : (edit : Edit) → is_referred desk_schema Enforced edit ≡ true → is_referred (desk_with extra) Enforced edit ≡ true
  referred_more edit it = search (rules, arith, and_parts, and_from, either_more, test_weaker, key_more, to_more)

  -- an edit that is refused is refused without these indexes too
  pub refused_bare : (db : Trees) (edit : Edit) (why : Refusal) → IsRefused (desk_with extra) Enforced db edit why
      → IsRefused desk_schema Enforced db edit why
  refused_bare db edit (Violates Unique) h = λ keeps. h (unique_more (with_tree db edit.table.tree (edited db edit)) keeps)
  refused_bare db edit BadReference h =
      false_from_ne_true (is_referred desk_schema Enforced edit) (λ it. let no = sym (referred_more edit it) ∙ h in cc)
  refused_bare db edit why h = h

  -- Conflicts.

  shares_none : (target : Option (List ℕ)) (table : Table) (new row : Row) (xs : List Index) → AllByRecursion IsExtra xs
      → list_any (shares target table new row) xs ≡ false
  shares_none target table new row [] plain = refl
  shares_none target table new row (i ∷ xs) plain = rw plain.0.plain (shares_none target table new row xs plain.1)

  conflicts_bare : (target : Option (List ℕ)) (table : Table) (new row : Row)
      → conflicts target (desk_with extra).indexes table new row ≡ conflicts target desk_schema.indexes table new row
  conflicts_bare target table new row =
      ap (λ b. (aims target (0 ∷ []) && agree plain_key (0 ∷ []) row (0 ∷ []) new) || b) (any_alone (shares target table new row) desk_schema.indexes extra (shares_none target table new row extra are))

  -- rows conflict as they do without these indexes
  pub are_conflicts : {target : Option (List ℕ)} {table : Table} {rows found : List Row} {new : Row}
      → AreConflicts target (desk_with extra).indexes table rows new found → AreConflicts target desk_schema.indexes table rows new found
  are_conflicts {target = target} {table = table} {new = new} it = search (rules, arith, conflicts_bare)
