-- When the rules of SQL allow the insertion of several rows of entry2. For CopyReasons.
use Rattle.std.proofs.Common.{◌≡◌, ◌≢◌, ◌<◌, ◌≤◌, ◌^◌, inl, inr, pos, List, [], ◌∷◌, ◌++◌, map, length, Option, None, Some, Bool, true, false, not, ◌&&◌, ◌||◌, nat_lt, refl, sym, ap, subst, ◌∙◌, arith, append_assoc, rules}
use Rattle.std.specs.List.{AllByRecursion, list_all, list_any}
use Rattle.std.proofs.lemmas.Bool.{cases_eq, ne_eqb, and_parts, and_from, or_cases, or_left, or_right, false_from_ne_true}
use Rattle.sqlite_value.specs.Keys.{first_key, joined}
use Rattle.sqlite_trees.specs.Tree.{Trees, rowid, put_row, with_tree, IsTable}
use Rattle.sqlite_trees.specs.View.{is_int}
use Rattle.sqlite_schema.specs.declared.schema.Among.TheVariants.{All}
use Rattle.sqlite_schema.specs.declared.schema.Constraint.TheVariants.{Datatype, NotNull, Check, PrimaryKey, Unique, ForeignKey}
use Rattle.sqlite_schema.specs.declared.schema.Keys.TheVariants.{Enforced}
use Rattle.sqlite_schema.specs.declared.schema.Reference.{Reference}
use Rattle.sqlite_schema.specs.declared.schema.Index.{Index}
use Rattle.sqlite_schema.specs.Rules.{guards, agree, clashes, has_parent, is_held, ParentKey, parent_key, is_key_of, Refers, Obeys, passes}
use Rattle.sqlite_rules.specs.declared.error.Refusal.{Refusal}
use Rattle.sqlite_rules.specs.declared.error.Refusal.TheVariants.{Violates, Mismatch, NoRowid, BadReference, TooDeep}
use Rattle.sqlite_rules.specs.Lists.{Has}
use Rattle.sqlite_rules.specs.Keys.{are_unique}
use Rattle.sqlite_rules.specs.Edit.{IsRefused, are_fresh, is_taken, left_by, taken_by, id_in}
use Rattle.sqlite_rules.proofs.ListLemmas.{all_from, test_from, some_has, some_from, has_kept}
use Rattle.sqlite_rules.proofs.RuleLemmas.{Turns, keeps_at, unique_kept, origin, refers_at, refers_from}
use Rattle.sqlite_rules.proofs.EditLemmas.{turns}
use Rattle.sqlite_rules.proofs.PlaceLemmas.{named_parent}
use Rattle.sqlite_tied.specs.Compute.{everything}
use Rattle.sqlite.specs.Order.{Row}
use Rattle.sqlite.specs.Ops.{fits_i64}
use Rattle.sqlite.specs.Table.{Table}
use Rattle.sqlite.specs.Edit.{Edit, edited}
use Rattle.desk_sql.specs.Schema.{desk_schema, entry_at, entry2_at, to_journey}
use Rattle.desk_sql.specs.Rows.{EntryRow, entry_row}
use Rattle.desk_sql.proofs.Keyed.{put_last}
use Rattle.desk_sql.proofs.Refusing.{IsSafe}
use Rattle.desk_sql.proofs.NewRow.{IsFit, desk_apart}
use Rattle.desk_sql.proofs.Writing.{Lands}
use Rattle.desk_sql.proofs.Storing.{storable, held_from, fits_whole, range_holds, range_ends, is_between as is_within, untaken}
use Rattle.tables.proofs.Filling.{first_below}
use Rattle.tables.proofs.Ranges.{Rises}

-- Items of the old table.

-- an item of the old table obeys each rule of the new one on a row alone: its kind is in a smaller range
pub item_fits : (db : Trees) (e : EntryRow) → Obeys desk_schema db → Has (db 10) (entry_row e) → e.num < 2 ^ 63 → IsFit (entry2_at 13) db (entry_row e)
item_fits db e obeys there small =
    let was = keeps_at Check desk_schema db (entry_at 10) (entry_row e) (obeys.rules Check) (inr (inr (inr (inr (inr (inl refl)))))) there in
    let kind : e.item ≤ 2 = range_ends e.item 0 2 (and_parts (is_within e.item 0 2) true was).0 in
    record {
      typed = refl;
      present = refl;
      checked = rw (range_holds e.item 0 3 (omega arith) (omega (arith, kind))) refl;
      id = pos e.num;
      keyed = refl;
      fits = fits_whole e.num small;
      storable = held_from (entry2_at 13) (entry_row e) (storable _ (entry_row e) refl refl (omega arith), omega arith) tt (storable _ _ refl refl (omega arith), tt);
    }

-- and its journey is there
pub item_parent : (db : Trees) (e : EntryRow) → Obeys desk_schema db → Has (db 10) (entry_row e)
    → has_parent desk_schema.tables db (entry_row e) (to_journey 2) ≡ true
item_parent db e obeys there =
    refers_at All desk_schema db (entry_at 10) (entry_row e) (to_journey 2) (obeys.rules ForeignKey) (inr (inr (inr (inr (inr (inl refl)))))) there (inl refl) refl

-- items above those that are there are fresh
pub fresh_after : (xs ys : List EntryRow) → Rises (xs ++ ys) → are_fresh (map entry_row xs) (map entry_row ys) ≡ true
fresh_after xs [] rise = refl
fresh_after xs (y ∷ ys) rise =
    let below = first_below xs y ys rise in
    let free : is_taken (map entry_row xs) (entry_row y) ≡ false
    = untaken entry_row (λ (e : EntryRow). pos e.num) (λ _. refl) xs (pos y.num) below (entry_row y) refl in
    let next : put_row (entry_row y) (map entry_row xs) ≡ map entry_row (xs ++ y ∷ [])
    = put_last entry_row (λ (e : EntryRow). pos e.num) (λ _. refl) xs y below in
    and_from (not (is_taken (map entry_row xs) (entry_row y))) (are_fresh (put_row (entry_row y) (map entry_row xs)) (map entry_row ys))
    (ap not free)
    (subst (λ rows. are_fresh rows (map entry_row ys) ≡ true) (sym next)
    (fresh_after (xs ++ y ∷ []) ys (subst Rises (sym (append_assoc xs (y ∷ []) ys)) rise)))

-- New items.

-- the insertion of rows of entry2
abbrev pub items_edit : List Row → Edit
items_edit news = record { table = entry2_at 13; gone = []; news = news }

-- an item refers to a key
owns : list_all (is_key_of desk_schema) (entry2_at 13).references ≡ true
unfolding everything first_key joined
owns = refl

module _ (db : Trees) (news : List Row) (ordered : IsTable (db 13)) (obeys : Obeys desk_schema db)
    (fit : (row : Row) → Has news row → IsFit (entry2_at 13) db row) (fresh : are_fresh (db 13) news ≡ true)
    -- the journey of each new row is there
    (parents : (row : Row) → Has news row → has_parent desk_schema.tables db row (to_journey 2) ≡ true) where
  abbrev it : Edit
  it = items_edit news

  listed : Has desk_schema.tables (entry2_at 13)
  listed = inr (inr (inr (inr (inr (inr (inr (inl refl)))))))

  turned : (next : Trees) → next 13 ≡ edited db it → AllByRecursion (λ t. t.tree ≢ 13 → next t.tree ≡ db t.tree) desk_schema.tables
      → Turns desk_schema db next (entry2_at 13) (left_by db it) (taken_by db it) news
  turned next rows tables = turns desk_schema db next it desk_apart listed ordered fresh rows tables

  -- the trees with the rows
  abbrev after : Trees
  after = with_tree db 13 (edited db it)

  after_others : AllByRecursion (λ t. t.tree ≢ 13 → after t.tree ≡ db t.tree) desk_schema.tables
  after_others = search (rules, arith, all_from, ne_eqb)

  turn : Turns desk_schema db after (entry2_at 13) (left_by db it) (taken_by db it) news
  turn = turned after refl after_others

  -- no unique index is on entry2
  no_clash : (i : Index) → Has desk_schema.indexes i → (guards i (entry2_at 13) && list_any (clashes i.order i.columns (after 13)) news) ≡ true → ⊥
  no_clash i known both = search (rules, arith, has_kept, and_parts)

  unique : are_unique desk_schema.indexes after (entry2_at 13) news ≡ true
  unique = search (rules, arith, test_from, false_from_ne_true, no_clash)

  passed : (p : Row → Bool) → ((r : Row) → IsFit (entry2_at 13) db r → p r ≡ true) → list_all p news ≡ true
  passed p each = test_from p news (λ r there. each r (fit r there))

  referred : (adds : Bool) → ((not adds || list_all (is_key_of desk_schema) (entry2_at 13).references) && true) ≡ true
  referred adds = and_from _ true (or_right (not adds) _ owns) refl

  permitted : (why : Refusal) → ¬ IsRefused desk_schema Enforced db it why
  permitted (Violates Datatype) h = let all = passed (passes Datatype desk_schema db (entry2_at 13)) (λ r f. f.typed) in let bad = sym all ∙ h in cc
  permitted (Violates NotNull) h = let all = passed (passes NotNull desk_schema db (entry2_at 13)) (λ r f. f.present) in let bad = sym all ∙ h in cc
  permitted (Violates Check) h = let all = passed (passes Check desk_schema db (entry2_at 13)) (λ r f. f.checked) in let bad = sym all ∙ h in cc
  permitted (Violates PrimaryKey) h = let bad = sym fresh ∙ h in cc
  permitted (Violates Unique) h =
      h (unique_kept desk_schema db after (entry2_at 13) (left_by db it) (taken_by db it) news turn unique (obeys.rules Unique))
  permitted (Violates ForeignKey) h = h
  permitted Mismatch h = let all = passed (λ r. is_int (rowid r)) (λ r f. ap is_int f.keyed) in let bad = sym all ∙ h in cc
  permitted NoRowid h =
      let all = passed (λ r. fits_i64 (id_in (rowid r))) (λ r f. ap (λ v. fits_i64 (id_in v)) f.keyed ∙ f.fits) in let bad = sym all ∙ h in cc
  permitted BadReference h = let bad : true ≡ false = sym (referred (nat_lt 0 (length news))) ∙ h in cc
  permitted TooDeep h = h

  -- a parent that was there is there
  held_still : (next : Trees) → Turns desk_schema db next (entry2_at 13) (left_by db it) (taken_by db it) news → (ref : Reference) (row : Row)
      → has_parent desk_schema.tables db row ref ≡ true → has_parent desk_schema.tables next row ref ≡ true
  held_still next change ref row held = elim (or_cases _ _ held) [
    | inl null ↦ or_left _ _ null
    | inr some ↦ or_right _ _ (go (parent_key desk_schema.tables ref) refl some)
  ]
    where
      stays : (t : Table) → Has desk_schema.tables t → (r : Row) → Has (db t.tree) r → Has (next t.tree) r
      stays t known r there = elim (cases_eq t.tree 13) [
        | inl same ↦ subst (λ n. Has (next n) r) (sym same) (change.stays r (subst (λ n. Has (db n) r) same there))
        | inr other ↦ subst (λ rs. Has rs r) (sym (change.others t known other)) there
      ]

      go : (key : Option ParentKey) → parent_key desk_schema.tables ref ≡ key → is_held db ref.columns row key ≡ true → is_held next ref.columns row key ≡ true
      go None is none = none
      go (Some key) is some =
          let named = named_parent desk_schema.tables ref key is in
          let parent = some_has (λ p. agree key.2 key.1 p ref.columns row) (db key.0) some in
          some_from (λ p. agree key.2 key.1 p ref.columns row) (next key.0) parent.0
          (subst (λ n. Has (next n) parent.0) named.2 (stays named.0 named.1 parent.0 (subst (λ n. Has (db n) parent.0) (sym named.2) parent.1))) parent.2

  -- a new row refers to its journey alone, which is there
  own_parent : (ref : Reference) (row : Row) → Has (entry2_at 13).references ref → Has news row → has_parent desk_schema.tables db row ref ≡ true
  own_parent ref row it new = search (rules, arith)

  refers : (next : Trees) → Lands db it next → Refers All desk_schema next
  refers next made =
      let change = turned next made.rows made.tables in
      refers_from All desk_schema next (λ t ref row known of is there. elim (origin desk_schema db next (entry2_at 13) _ _ news change t row known there) [
        | inl (same, new) ↦ held_still next change ref row (own_parent ref row (subst (λ (x : Table). Has x.references ref) same of) new)
        | inr old ↦ held_still next change ref row (refers_at All desk_schema db t row ref (obeys.rules ForeignKey) known old of refl)
      ])

  pub items_safe : IsSafe db it
  items_safe = record {
    permitted = permitted;
    storable = λ r there. (fit r there).storable;
    refers = refers;
  }
