-- The rows of a table, as rows and as values, after an UPDATE or a DELETE. For ChangedRows, UpdateReasons and Putting.
use Rattle.std.proofs.Common.{◌≡◌, inl, inr, ℤ, List, [], ◌∷◌, map, Bool, true, false, not, if◌then◌else◌, filter, Less, is_eq, refl, sym, ap, subst, ◌∙◌, ◌<ℤ◌, drop, IsPermutation, arith, rules}
use Rattle.std.proofs.lemmas.Bool.{cases_Bool, false_from_ne_true, not-true}
use Rattle.std.specs.Ordering.{ordering_reverse}
use Rattle.std.proofs.lemmas.Cmp.{tied_itself}
use Rattle.sqlite_value.specs.declared.value.Value.TheVariants.{Int}
use Rattle.sqlite_value.proofs.OrderLemmas.{value_cmp_total}
use Rattle.sqlite.specs.Order.{Row, value_cmp}
use Rattle.sqlite_trees.specs.Tree.{rowid, has_rowid, without_rowid, put_row, IsTable, Trees, IsAscending}
use Rattle.sqlite_trees.proofs.TreeLemmas.{IsTable-put_row}
use Rattle.sqlite_trees.proofs.ListLemmas.{ascending-filter, filter-map}
use Rattle.sqlite_rules.specs.Lists.{Has}
use Rattle.sqlite_rules.specs.Edit.{id_in, without_all, put_all, are_fresh, left_by, edit_of, edited}
use Rattle.sqlite_rules.specs.Calls.{ids_of}
use Rattle.sqlite_rules.proofs.ListLemmas.{all_has, all_from, has_filtered, has_kept}
use Rattle.sqlite_rules.proofs.ProbeLemmas.{has_mapped, mapped_has}
use Rattle.sqlite_rules.proofs.PlaceLemmas.{left_or_taken, row_at_is, given}
use Rattle.sqlite_rules.proofs.TableLemmas.{put_all_has, put_all_keeps, put_all_adds, without_all_has}
use Rattle.desk_sql.specs.Lists.{changed, numbered_row, IsTableOf}
use Rattle.desk_sql.proofs.Members.{permutation_from, permutation_to, one_order}
use Rattle.sqlite.specs.Term.{Term}
use Rattle.sqlite.specs.Table.{Table}
use Rattle.sqlite.specs.Program.{overlay}
use Rattle.sqlite.specs.Query.{IsAnswer}
use Rattle.sqlite.specs.Cast.{cast_row}
use Rattle.sqlite.specs.Rowids.TheVariants.{Given}
use Rattle.desk_sql.specs.Meanings.{every_row}
use Rattle.desk_sql.proofs.Reading.{passes, shown_of, shows_any}
use Rattle.desk_sql.proofs.Keyed.{is_table, changed_rows, id_of, kept_values}

-- The rows of a table after an UPDATE or a DELETE.

never_both : (a b : Row) → value_cmp (rowid a) (rowid b) ≡ Less → value_cmp (rowid b) (rowid a) ≡ Less → ⊥
never_both a b p q = let e = value_cmp_total.antisymm (rowid a) (rowid b) ∙ ap ordering_reverse q in cc

-- two tables with the same rows are equal
same_rows : (xs ys : List Row) → IsTable xs → IsTable ys → ((r : Row) → Has xs r → Has ys r) → ((r : Row) → Has ys r → Has xs r) → xs ≡ ys
same_rows = one_order (λ (a b : Row). value_cmp (rowid a) (rowid b) ≡ Less) never_both

put_all_table : (news rows : List Row) → IsTable rows → IsTable (put_all rows news)
put_all_table [] rows up = up
put_all_table (n ∷ news) rows up = put_all_table news (put_row n rows) (IsTable-put_row n rows up)

without_all_table : (ids : List ℤ) (rows : List Row) → IsTable rows → IsTable (without_all rows ids)
without_all_table [] rows up = up
without_all_table (id ∷ ids) rows up = without_all_table ids (without_rowid id rows) (ascending-filter _ _ rows up)

-- the rows that are left have none of the rowids
pub left_lacks : (ids : List ℤ) (rows : List Row) (x : Row) (id : ℤ) → Has (without_all rows ids) x → Has ids id → has_rowid id x ≡ true → ⊥
left_lacks [] rows x id left none here = none
left_lacks (i ∷ ids) rows x id left (inl same) here = search (rules, arith, has_filtered, without_all_has)
left_lacks (i ∷ ids) rows x id left (inr later) here = left_lacks ids (without_rowid i rows) x id left later here

-- the rows that a query answers, each of which shows its rowid first, are deleted
module _ (rows : List Row) (p : Row → Bool) (shows : Row → Row) (answer : List Row) (up : IsTable rows)
    (id_shown : (r : Row) → Has rows r → p r ≡ true → rowid r ≡ Int (id_in (rowid (shows r))))
    (same : IsPermutation (map shows (filter p rows)) answer) where
  abbrev ids : List ℤ
  ids = ids_of answer

  abbrev left : List Row
  left = without_all rows ids

  answered : (s : Row) → Has answer s → (r : Row) × Has rows r × (p r ≡ true) × (s ≡ shows r)
  answered s h =
      let found = has_mapped shows (filter p rows) s (permutation_from (map shows (filter p rows)) answer s same h) in
      let kept = has_filtered p rows found.0 found.1 in
      (found.0, kept.0, kept.1, found.2)

  answers : (r : Row) → Has rows r → p r ≡ true → Has answer (shows r)
  answers r h passes = permutation_to (map shows (filter p rows)) answer (shows r) same (mapped_has shows (filter p rows) r (has_kept p rows r h passes))

  named : (r : Row) → Has rows r → p r ≡ true → has_rowid (id_in (rowid (shows r))) r ≡ true
  named r h passes = rw (id_shown r h passes) (ap is_eq (tied_itself value_cmp_total (Int (id_in (rowid (shows r))))))

  -- the rows that are left do not pass
  left_fails : (x : Row) → Has left x → p x ≡ false
  left_fails x old =
      let was = without_all_has ids rows x old in
      false_from_ne_true (p x) (λ e.
      left_lacks ids rows x (id_in (rowid (shows x))) old (mapped_has (λ r. id_in (rowid r)) answer (shows x) (answers x was e)) (named x was e))

  -- the rows that do not pass are left
  fails_left : (x : Row) → Has rows x → p x ≡ false → Has left x
  fails_left x h e = search (rules, arith, left_or_taken, has_mapped, answered, row_at_is, named)

  -- a DELETE leaves the rows that do not pass
  pub removed : without_all rows ids ≡ filter (λ r. not (p r)) rows
  removed = search
      (rules, arith, same_rows, without_all_table, ascending-filter, has_kept, without_all_has, left_fails, has_filtered, fails_left, not-true)

  -- the rows that the query shows are inserted under their rowids
  module _ (write : Row → Row) (id_kept : (r : Row) → Has rows r → p r ≡ true → rowid (write (shows r)) ≡ rowid r) where
    abbrev gives : Row → Row
    gives r = write (shows r)

    abbrev becomes : Row → Row
    becomes r = if p r then gives r else r

    abbrev news : List Row
    news = map write answer

    kept_id : (r : Row) → Has rows r → rowid (becomes r) ≡ rowid r
    kept_id r h = elim (cases_Bool (p r)) [ inl e ↦ rw e (id_kept r h e) | inr e ↦ rw e refl ]

    changed_table : (some : List Row) → ((r : Row) → Has some r → Has rows r) → IsTable some → IsTable (changed p gives some)
    changed_table [] within t = tt
    changed_table (r ∷ some) within t = (
      all_from _ (changed p gives some) (λ x h.
          let y = has_mapped becomes some x h in
          rw (y.2, kept_id y.0 (within y.0 (inr y.1)), kept_id r (within r (inl refl))) (all_has _ some y.0 t.0 y.1)),
      changed_table some (λ x h. within x (inr h)) t.1,
    )

    -- an UPDATE leaves each row at its place
    pub replaced : are_fresh left news ≡ true → put_all left news ≡ changed p gives rows
    replaced fresh = same_rows (put_all left news) (changed p gives rows) (put_all_table news left (without_all_table ids rows up))
        (changed_table rows (λ r h. h) up) forth back
      where
        forth : (x : Row) → Has (put_all left news) x → Has (changed p gives rows) x
        forth x h = elim (put_all_has news left x h) [
          | inl new ↦ (
              let s = has_mapped write answer x new in
              let r = answered s.0 s.1 in
              subst (Has (changed p gives rows)) (sym (rw r.2 (s.2 ∙ ap write r.3))) (mapped_has becomes rows r.0 r.1))
          | inr old ↦ subst (Has (changed p gives rows)) (ap (λ b. if b then gives x else x) (left_fails x old))
              (mapped_has becomes rows x (without_all_has ids rows x old))
        ]

        back : (x : Row) → Has (changed p gives rows) x → Has (put_all left news) x
        back x h = search (rules, arith, has_mapped, cases_Bool, put_all_adds, mapped_has, answers, put_all_keeps, fails_left)

-- A table of values after an UPDATE or a DELETE.

-- The rows are those of values; a query names the values that pass a test, and shows each as it is changed, under its rowid.
pub record Changes {X : Type 0} (f : X → Row) (id : X → ℤ) (db : Trees) (table : Table) (xs : List X) (tests project : List Term) (params : Row)
    (test : X → Bool) (change : X → X) : Type 0 where
  pub keyed : (x : X) → rowid (f x) ≡ Int (id x)
  pub rise : IsAscending (λ (x y : X). id x <ℤ id y) xs
  pub has : db table.tree ≡ map f xs
  pub seen : overlay db [] table.tree ≡ db table.tree
  pub test_is : (x : X) → passes tests params (f x) ≡ test x
  pub id_shown : (x : X) → rowid (shown_of project params (f x)) ≡ Int (id x)
  pub id_kept : (x : X) → id (change x) ≡ id x
  pub change_is : (x : X) → Has xs x → test x ≡ true → cast_row table (drop 1 (shown_of project params (f x))) ≡ f (change x)

module _ {X : Type 0} {f : X → Row} {id : X → ℤ} {db : Trees} {table : Table} {xs : List X} {tests project : List Term} {params : Row}
    {test : X → Bool} {change : X → X} (it : Changes f id db table xs tests project params test change) (answer : List Row)
    (asked : IsAnswer (every_row table.tree tests project) (overlay db []) params answer) where
  abbrev query_shows : Row → Row
  query_shows = shown_of project params

  abbrev query_writes : Row → Row
  query_writes s = cast_row table (drop 1 s)

  abbrev query_tests : Row → Bool
  query_tests = passes tests params

  -- the answer has the rows that the query shows of those that pass
  pub answer_is : IsPermutation (map query_shows (filter query_tests (map f xs))) answer
  answer_is = shows_any table.tree tests project db params (map f xs) answer asked (it.seen ∙ it.has)

  tested : (x : X) (r : Row) → r ≡ f x → query_tests r ≡ true → test x ≡ true
  tested x r is passed = sym (it.test_is x) ∙ ap query_tests (sym is) ∙ passed

  pub updated : are_fresh (left_by db (edit_of db table (ids_of answer) Given 1 answer)) (edit_of db table (ids_of answer) Given 1 answer).news ≡ true
      → edited db (edit_of db table (ids_of answer) Given 1 answer) ≡ map f (changed test change xs)
  updated fresh =
      let news_are = given (without_all (map f xs) (ids_of answer)) (map query_writes answer) in
      let fresh_too : are_fresh (without_all (map f xs) (ids_of answer)) (map query_writes answer) ≡ true = rw (it.has, news_are) at fresh in
      let rows = replaced (map f xs) query_tests query_shows answer (is_table f id it.keyed xs it.rise)
      (λ r h passed. let x = has_mapped f xs r h in rw (x.2, it.keyed x.0, it.id_shown x.0) refl) answer_is query_writes
      (λ r h passed. let x = has_mapped f xs r h in
      ap (λ z. rowid (query_writes (query_shows z))) x.2 ∙ ap rowid (it.change_is x.0 x.1 (tested x.0 r x.2 passed))
      ∙ it.keyed (change x.0) ∙ ap Int (it.id_kept x.0) ∙ sym (ap rowid x.2 ∙ it.keyed x.0))
      fresh_too in
      rw (it.has, news_are) (rows ∙ changed_rows f id it.keyed query_tests test (λ z. query_writes (query_shows z)) change it.test_is xs it.change_is)

-- A table whose rowids are free, after a DELETE.
pub table_deleted : {X : Type 0} (columns : X → Row) (db : Trees) (table : Table) (xs : List X) → IsTableOf columns (db table.tree) xs
    → overlay db [] table.tree ≡ db table.tree → (tests project : List Term) (params : Row) (answer : List Row) (test : X → Bool)
    → ((p : ℤ × X) → passes tests params (numbered_row columns p) ≡ test p.1)
    → ((p : ℤ × X) → rowid (shown_of project params (numbered_row columns p)) ≡ Int p.0)
    → IsAnswer (every_row table.tree tests project) (overlay db []) params answer
    → IsTableOf columns (edited db (edit_of db table (ids_of answer) Given 0 [])) (filter (λ x. not (test x)) xs)
table_deleted columns db table xs it seen tests project params answer test test_is id_shown asked =
    let f = numbered_row columns in
    let ps = it.numbered in
    let left = removed (map f ps) (passes tests params) (shown_of project params) answer (is_table f id_of (λ _. refl) ps it.rise)
    (λ r h passed. let p = has_mapped f ps r h in rw (p.2, id_shown p.0) refl)
    (shows_any table.tree tests project db params (map f ps) answer asked (seen ∙ it.rows_are)) in
    kept_values columns (db table.tree) _ xs (λ x. not (test x)) it
    (ap (λ rs. without_all rs (ids_of answer)) it.rows_are ∙ left ∙ filter-map (λ r. not (passes tests params r)) f ps
    ∙ (λ i. map f (filter (λ p. not (test_is p i)) ps)))
