-- When the rules of SQL allow an UPDATE that keeps each row's rowid and keys. For the lemmas of each statement that updates.
use Rattle.std.proofs.Common.{◌≡◌, ◌≢◌, ◌<ℤ◌, inl, inr, ℤ, List, [], ◌∷◌, map, filter, drop, length, Bool, true, false, not, ◌&&◌, if◌then◌else◌, Less, is_eq, refl, sym, ap, subst, ◌∙◌, nat_lt, ◌||◌, IsPermutation, arith, rules}
use Rattle.std.specs.List.{IsDistinct, list_all}
use Rattle.std.proofs.lemmas.Bool.{or_cases, or_left, or_right, and_from, false_from_ne_true}
use Rattle.std.proofs.lemmas.Map.Keys.{IsDistinct-IsPermutation}
use Rattle.sqlite_value.specs.declared.value.Value.TheVariants.{Int}
use Rattle.sqlite_value.proofs.OrderLemmas.{value_cmp_total}
use Rattle.sqlite.specs.Order.{Row, value_cmp}
use Rattle.sqlite.specs.Term.{Term}
use Rattle.sqlite.specs.Table.{Table}
use Rattle.sqlite.specs.Program.{overlay}
use Rattle.sqlite.specs.Query.{IsAnswer}
use Rattle.sqlite.specs.Cast.{cast_row}
use Rattle.sqlite.specs.Edit.{Edit, edit_of, edited, without_all, are_fresh, is_taken, left_by, id_in}
use Rattle.sqlite.specs.Rowids.TheVariants.{Given}
use Rattle.sqlite_trees.specs.Tree.{Trees, rowid, put_row, IsAscending}
use Rattle.sqlite_schema.specs.declared.schema.Among.TheVariants.{All}
use Rattle.sqlite_schema.specs.declared.schema.Constraint.TheVariants.{Unique, ForeignKey}
use Rattle.sqlite_schema.specs.declared.schema.Reference.{Reference}
use Rattle.sqlite_schema.specs.Rules.{is_key_of, is_key_if_to, has_null, is_held, parent_key, Refers, Obeys}
use Rattle.sqlite_rules.specs.Lists.{Has}
use Rattle.sqlite_rules.specs.InPlace.{AgreeAt, Twins, AreTwins}
use Rattle.sqlite_rules.specs.Calls.{ids_of}
use Rattle.sqlite_rules.proofs.ListLemmas.{all_has, all_from, some_has, has_filtered}
use Rattle.sqlite_rules.proofs.ProbeLemmas.{has_mapped, mapped_has}
use Rattle.sqlite_rules.proofs.TableLemmas.{put_has}
use Rattle.sqlite_rules.proofs.RuleLemmas.{refers_at, refers_from}
use Rattle.sqlite_rules.proofs.PlaceLemmas.{given, unique_stays, held_stays, twin_of, agrees_itself, null_same}
use Rattle.desk_sql.specs.Schema.{desk_schema}
use Rattle.desk_sql.specs.Lists.{changed}
use Rattle.desk_sql.specs.Meanings.{every_row}
use Rattle.desk_sql.proofs.Members.{permutation_from}
use Rattle.desk_sql.proofs.Reading.{passes, shown_of}
use Rattle.desk_sql.proofs.Keyed.{int_below}
use Rattle.desk_sql.proofs.Updating.{left_lacks, updated, Changes, answer_is}
use Rattle.desk_sql.proofs.Refusing.{IsSafe}
use Rattle.desk_sql.proofs.NewRow.{desk_apart, IsFit, edit_safe}
use Rattle.desk_sql.proofs.Writing.{Lands}
use Rattle.sqlite_trees.proofs.ListLemmas.{all-map, all_weaker, ascending-filter, filter-map, map-map}

-- a row keeps its own rowid and keys
twin_self : (table : Table) (r : Row) → Twins desk_schema table r r
twin_self table r = search (rules, arith, all_from, agrees_itself)

-- two rows have the same rowid
abbrev pub is_same : Row → Row → Bool
is_same a b = is_eq (value_cmp (rowid a) (rowid b))

flips : (a b : Row) → is_same a b ≡ is_same b a
flips a b = search (rules, arith, value_cmp_total)

-- rows whose rowids differ, from each other and from those that are there, are fresh
fresh_all : (news rows : List Row) → IsDistinct is_same news → ((x n : Row) → Has rows x → Has news n → is_same x n ≡ false) → are_fresh rows news ≡ true
unfolding IsDistinct
fresh_all [] rows distinct apart = refl
fresh_all (n ∷ news) rows distinct apart = and_from (not (is_taken rows n)) (are_fresh (put_row n rows) news)
    (ap not (false_from_ne_true (is_taken rows n) (λ taken.
    let x = some_has (λ r. is_same r n) rows taken in let none = apart x.0 n x.1 (inl refl) in let bad = sym none ∙ x.2 in cc)))
    (fresh_all news (put_row n rows) distinct.1 (λ x m there new. elim (put_has n rows x there) [
      | inl same ↦ rw same (all_has (λ y. is_same n y ≡ false) news m distinct.0 new)
      | inr old ↦ apart x m old (inr new)
    ]))

module _ {X : Type 0} {f : X → Row} {id : X → ℤ} {db : Trees} {table : Table} {xs : List X} {tests project : List Term} {params : Row}
    {test : X → Bool} {change : X → X} (it : Changes f id db table xs tests project params test change)
    (listed : Has desk_schema.tables table) (obeys : Obeys desk_schema db)
    -- each changed row obeys the rules, and no column of a key or of a reference has changed
    (fit : (x : X) → Has xs x → test x ≡ true → IsFit table db (f (change x)))
    (twin : (x : X) → Twins desk_schema table (f x) (f (change x)))
    (owns : list_all (is_key_of desk_schema) table.references ≡ true)
    (serves : list_all (λ (t : Table). list_all (is_key_if_to desk_schema table) t.references) desk_schema.tables ≡ true)
    (answer : List Row) (asked : IsAnswer (every_row table.tree tests project) (overlay db []) params answer) where
  abbrev edit : Edit
  edit = edit_of db table (ids_of answer) Given 1 answer

  abbrev shows : Row → Row
  shows = shown_of project params

  abbrev write : Row → Row
  write s = cast_row table (drop 1 s)

  abbrev test_of : Row → Bool
  test_of = passes tests params

  same : IsPermutation (map shows (filter test_of (map f xs))) answer
  same = answer_is it answer asked

  -- what the query shows is shown of a value that passes
  from_answer : (s : Row) → Has answer s → (x : X) × Has xs x × (test x ≡ true) × (s ≡ shows (f x))
  from_answer s there =
      let found = has_mapped shows (filter test_of (map f xs)) s (permutation_from (map shows (filter test_of (map f xs))) answer s same there) in
      let kept = has_filtered test_of (map f xs) found.0 found.1 in
      let x = has_mapped f xs found.0 kept.0 in
      (x.0, x.1, sym (it.test_is x.0) ∙ ap test_of (sym x.2) ∙ kept.1, found.2 ∙ ap shows x.2)

  news_are : edit.news ≡ map write answer
  news_are = given (without_all (db table.tree) (ids_of answer)) (map write answer)

  -- each new row is that of a changed value
  from_news : (r : Row) → Has edit.news r → (x : X) × Has xs x × (test x ≡ true) × (r ≡ f (change x))
  from_news r there = grind (arith, has_mapped, news_are, from_answer)

  id_of_shown : (s : Row) → Has answer s → rowid (write s) ≡ rowid s
  id_of_shown s there = search (rules, arith, from_answer)

  -- the rowids that the query shows differ
  apart_shown : (zs : List X) → IsAscending (λ (x y : X). id x <ℤ id y) zs → IsDistinct is_same (map (λ x. shows (f x)) zs)
  unfolding IsDistinct
  apart_shown [] up = tt
  apart_shown (z ∷ zs) up = (
    all-map (λ r. is_same (shows (f z)) r ≡ false) (λ x. shows (f x)) zs (all_weaker (λ (y : X). id z <ℤ id y) _ (λ y low.
        let less : value_cmp (rowid (shows (f z))) (rowid (shows (f y))) ≡ Less = rw (it.id_shown z, it.id_shown y) (int_below (id z) (id y) low) in
        ap is_eq less) zs up.0),
    apart_shown zs up.1,
  )

  distinct_answer : IsDistinct is_same answer
  distinct_answer = search (rules, arith, filter-map, map-map, IsDistinct-IsPermutation, flips, same, apart_shown, ascending-filter)

  distinct_news : (ss : List Row) → ((s : Row) → Has ss s → Has answer s) → IsDistinct is_same ss → IsDistinct is_same (map write ss)
  unfolding IsDistinct
  distinct_news [] within apart = tt
  distinct_news (s ∷ ss) within apart = (
    all_from (λ y. is_same (write s) y ≡ false) (map write ss) (λ y there.
        let z = has_mapped write ss y there in
        rw (z.2, id_of_shown s (within s (inl refl)), id_of_shown z.0 (within z.0 (inr z.1))) (all_has (λ u. is_same s u ≡ false) ss z.0 apart.0 z.1)),
    distinct_news ss (λ u there. within u (inr there)) apart.1,
  )

  fresh : are_fresh (left_by db edit) edit.news ≡ true
  fresh = rw news_are (fresh_all (map write answer) (without_all (db table.tree) (ids_of answer)) (distinct_news answer (λ s there. there) distinct_answer)
      (λ x n left new. false_from_ne_true (is_same x n) (λ tie.
      let s = has_mapped write answer n new in
      let o = from_answer s.0 s.1 in
      let named : rowid n ≡ Int (id_in (rowid s.0)) = ap rowid s.2 ∙ id_of_shown s.0 s.1 ∙ exact_id s.0 (id o.0) (ap rowid o.3 ∙ it.id_shown o.0) in
      left_lacks (ids_of answer) (db table.tree) x (id_in (rowid s.0)) left (mapped_has (λ (r : Row). id_in (rowid r)) answer s.0 s.1) (rw named at tie))))
    where
      exact_id : (r : Row) (n : ℤ) → rowid r ≡ Int n → rowid r ≡ Int (id_in (rowid r))
      exact_id r n is = rw is refl

  edited_is : edited db edit ≡ map f (changed test change xs)
  edited_is = updated it answer asked fresh

  -- Trees with the changed rows.
  module _ (next : Trees) (rows : next table.tree ≡ edited db edit)
      (others : (t : Table) → Has desk_schema.tables t → t.tree ≢ table.tree → next t.tree ≡ db t.tree) where
    abbrev becomes : X → X
    becomes x = if test x then change x else x

    pair : (x : X) → Twins desk_schema table (f x) (f (becomes x))
    pair x = search (rules, arith, twin_self)

    twins : AreTwins desk_schema table db next
    twins = record { before = before; after = after; keys = serves }
      where
        before : (r : Row) → Has (next table.tree) r → (o : Row) × Has (db table.tree) o × Twins desk_schema table o r
        before r there = search (rules, arith, has_mapped, edited_is, mapped_has, pair)

        after : (o : Row) → Has (db table.tree) o → (r : Row) × Has (next table.tree) r × Twins desk_schema table o r
        after o there =
            let x = has_mapped f xs o (subst (λ rs. Has rs o) it.has there) in (
              f (becomes x.0),
              subst (λ rs. Has rs (f (becomes x.0))) (sym (rows ∙ edited_is))
                  (mapped_has f (changed test change xs) (becomes x.0) (mapped_has becomes xs x.0 x.1)),
              subst (λ r. Twins desk_schema table r (f (becomes x.0))) (sym x.2) (pair x.0),
            )

    refers_next : Refers All desk_schema next
    refers_next = refers_from All desk_schema next (λ t ref row known of is there.
        let was = twin_of desk_schema db next table listed desk_apart others twins t row known there in
        let agrees : AgreeAt ref.columns was.0 row = all_has (λ (r : Reference). AgreeAt r.columns was.0 row) t.references ref was.3 of in
        elim (or_cases (has_null ref.columns was.0) (is_held db ref.columns was.0 (parent_key desk_schema.tables ref))
        (refers_at All desk_schema db t was.0 ref (obeys.rules ForeignKey) known was.1 of refl)) [
          | inl null ↦ or_left _ _ (null_same ref.columns was.0 row agrees ∙ null)
          | inr held ↦ or_right _ _ (held_stays desk_schema db next table listed desk_apart others twins t ref was.0 row known of agrees (parent_key desk_schema.tables ref) refl held)
        ])

  fit_news : (r : Row) → Has edit.news r → IsFit table db r
  fit_news r there = let x = from_news r there in subst (IsFit table db) (sym x.3) (fit x.0 x.1 x.2)

  referred : (news gone : Bool) → ((not news || list_all (is_key_of desk_schema) table.references)
      && (not gone || list_all (λ (t : Table). list_all (is_key_if_to desk_schema table) t.references) desk_schema.tables)) ≡ true
  referred news gone = and_from _ _ (or_right (not news) _ owns) (or_right (not gone) _ serves)

  as_were : (next : Trees) → Lands db edit next → (t : Table) → Has desk_schema.tables t → t.tree ≢ table.tree → next t.tree ≡ db t.tree
  as_were next made t = all_has (λ (u : Table). u.tree ≢ table.tree → next u.tree ≡ db u.tree) desk_schema.tables t made.tables

  pub update_safe : IsSafe db edit
  update_safe = edit_safe db edit fit_news fresh (referred (nat_lt 0 (length edit.news)) (nat_lt 0 (length edit.gone)))
      (λ next made. unique_stays desk_schema db next table listed desk_apart (as_were next made) (twins next made.rows (as_were next made)) (obeys.rules Unique))
      (λ next made. refers_next next made.rows (as_were next made))
