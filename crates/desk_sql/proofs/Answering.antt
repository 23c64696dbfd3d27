-- The answer of a query over a table of values, as values. For the lemmas of each query.
use Rattle.std.proofs.Common.{◌≡◌, ◌⊎◌, inl, inr, ℕ, ℤ, List, [], ◌∷◌, map, filter, Bool, refl, sym, ap, ap₂, subst, ◌∙◌, IsPermutation, rules, arith}
use Rattle.std.specs.List.{AllByRecursion}
use Rattle.std.proofs.lemmas.List.Sorted.{IsPermutation-map}
use Rattle.sqlite.specs.Order.{Row}
use Rattle.sqlite.specs.Term.{Term}
use Rattle.sqlite.specs.Program.{overlay}
use Rattle.sqlite.specs.Query.{Query, IsAnswer, Output, output, output_cmp}
use Rattle.sqlite_trees.specs.Tree.{Trees, IsAscending}
use Rattle.sqlite_trees.proofs.ListLemmas.{ascending_from_map, ascending-map, ascending_weaker, filter-map, map-map, all-map}
use Rattle.sqlite_value.specs.declared.keys.Key.{Key}
use Rattle.sqlite_rules.specs.Lists.{Has}
use Rattle.sqlite_rules.proofs.ListLemmas.{all_has, all_from}
use Rattle.desk_sql.proofs.Members.{permutation_from, permutation_to}
use Rattle.desk_sql.specs.Lists.{numbered_row, IsTableOf, IsNumbered, IsListed}
use Rattle.desk_sql.specs.Meanings.{sorted_rows}
use Rattle.desk_sql.proofs.Reading.{passes, env_of, outputs_of, lists}
use Rattle.desk_sql.proofs.Keyed.{value_of}
use Rattle.desk_sql.proofs.Permuting.{permuted}
use Rattle.desk_sql.proofs.Ascending.{IsUpTo, ascends, output_total}

-- the rows are those of these values: the values of the table that pass, in the order of the query
pub record Answers {X : Type 0} (q : Query) (out : X → Output) (passing : List X) (rows : List Row) : Type 0 where
  pub values : List X
  pub same : IsPermutation passing values
  pub rising : IsAscending (λ x y. IsUpTo (output_cmp q) (output_total q) (out x) (out y)) values
  pub rows_are : rows ≡ map (λ x. (out x).1) values

module _ (tree : ℕ) (tests project : List Term) (order : List (Term × Key)) (db : Trees) (params : Row) (rows : List Row)
    (answer : IsAnswer (sorted_rows tree tests project order) (overlay db []) params rows)
    (seen : overlay db [] tree ≡ db tree) where
  abbrev q : Query
  q = sorted_rows tree tests project order

  module _ {X : Type 0} (f : X → Row) (xs : List X) (has : db tree ≡ map f xs) (test : X → Bool)
      (test_is : (x : X) → passes tests params (f x) ≡ test x) where
    -- the output of the query for a value
    abbrev pub out_of : X → Output
    out_of x = output q (env_of params (f x))

    outputs_are : (ys : List X) → outputs_of q params (filter (passes tests params) (map f ys)) ≡ map out_of (filter test ys)
    outputs_are ys = search (rules, arith, filter-map, map-map)

    pub answers : Answers q out_of (filter test xs) rows
    answers =
        let l = lists tree tests project order (overlay db []) params rows answer in
        let found : IsPermutation (map out_of (filter test xs)) l.ordered = subst (λ os. IsPermutation os l.ordered)
        (ap (λ rs. outputs_of q params (filter (passes tests params) rs)) (seen ∙ has) ∙ outputs_are xs) l.same in
        let it = permuted out_of (filter test xs) l.ordered found in
        let up = ascends (output_cmp q) (output_total q) l.ordered l.sorted in
        record {
          values = it.0;
          same = it.2;
          rising = ascending_from_map (IsUpTo (output_cmp q) (output_total q)) out_of it.0
              (subst (λ os. IsAscending (IsUpTo (output_cmp q) (output_total q)) os) it.1 up);
          rows_are = l.shown ∙ ap (map (λ (o : Output). o.1)) it.1 ∙ map-map (λ (o : Output). o.1) out_of it.0;
        }

  -- a table whose rowids are its values' own numbers
  module _ {X : Type 0} (number : X → ℕ) (row_of : X → Row) (xs : List X) (table : IsNumbered number row_of (db tree) xs)
      (test : X → Bool) (test_is : (x : X) → passes tests params (row_of x) ≡ test x) where
    pub numbered_answers : Answers q (λ x. output q (env_of params (row_of x))) (filter test xs) rows
    numbered_answers = answers row_of xs table.rows_are test test_is

  -- a table whose rowids are free, for a query that shows none of them
  module _ {X : Type 0} (columns : X → Row) (xs : List X) (table : IsTableOf columns (db tree) xs) (out : X → Output)
      (out_is : (p : ℤ × X) → output q (env_of params (numbered_row columns p)) ≡ out p.1)
      (test : X → Bool) (test_is : (p : ℤ × X) → passes tests params (numbered_row columns p) ≡ test p.1) where
    abbrev Up : Output → Output → Type 0
    Up = IsUpTo (output_cmp q) (output_total q)

    rise_of : (ps : List (ℤ × X)) → IsAscending (λ a b. Up (output q (env_of params (numbered_row columns a))) (output q (env_of params (numbered_row columns b)))) ps
        → IsAscending (λ a b. Up (out a.1) (out b.1)) ps
    rise_of = ascending_weaker _ _ (λ a b up. rw (sym (out_is a), sym (out_is b)) up)

    pub table_answers : Answers q out (filter test xs) rows
    table_answers =
        let it = answers (numbered_row columns) table.numbered table.rows_are (λ p. test p.1) test_is in
        let passing : map value_of (filter (λ p. test p.1) table.numbered) ≡ filter test xs
        = sym (filter-map test value_of table.numbered) ∙ ap (filter test) (sym table.values_are) in
        record {
          values = map value_of it.values;
          same = subst (λ ys. IsPermutation ys (map value_of it.values)) passing
              (IsPermutation-map value_of (filter (λ p. test p.1) table.numbered) it.values it.same);
          rising = ascending-map (λ x y. Up (out x) (out y)) value_of it.values (rise_of it.values it.rising);
          rows_are = it.rows_are ∙ (λ i. map (λ p. (out_is p i).1) it.values) ∙ sym (map-map (λ x. (out x).1) value_of it.values);
        }

module _ {X : Type 0} (q : Query) (out : X → Output) (passing : List X) where
  -- the first row is that of a value that passes, and no value that passes is before it
  pub first_of : (row : Row) (tail : List Row) → Answers q out passing (row ∷ tail)
      → (x : X) × Has passing x × (row ≡ (out x).1)
      × ((y : X) → Has passing y → (y ≡ x) ⊎ IsUpTo (output_cmp q) (output_total q) (out x) (out y))
  first_of row tail it = go it.values it.same it.rising it.rows_are
    where
      go : (values : List X) → IsPermutation passing values → IsAscending (λ x y. IsUpTo (output_cmp q) (output_total q) (out x) (out y)) values
          → row ∷ tail ≡ map (λ x. (out x).1) values
          → (x : X) × Has passing x × (row ≡ (out x).1) × ((y : X) → Has passing y → (y ≡ x) ⊎ IsUpTo (output_cmp q) (output_total q) (out x) (out y))
      go [] same up e = absurd (cc)
      go (x ∷ more) same up e = (
        x,
        permutation_from passing (x ∷ more) x same (inl refl),
        cc,
        λ y h. elim (permutation_to passing (x ∷ more) y same h) [
          | inl is ↦ inl is
          | inr later ↦ inr (all_has _ more y up.0 later)
        ],
      )

  -- if there is no row, no value passes
  pub none_of : Answers q out passing [] → passing ≡ []
  none_of it = go it.values it.same it.rows_are
    where
      empty : (xs : List X) → IsPermutation xs [] → xs ≡ []
      empty [] same = refl
      empty (x ∷ xs) same = absurd (permutation_to (x ∷ xs) [] x same (inl refl))

      go : (values : List X) → IsPermutation passing values → [] ≡ map (λ x. (out x).1) values → passing ≡ []
      go [] same e = empty passing same
      go (x ∷ more) same e = absurd (cc)

-- each row is that of a value that passes
pub all_shown : {X : Type 0} (q : Query) (out : X → Output) (passing : List X) (rows : List Row) → Answers q out passing rows
    → (P : Row → Type 0) → ((x : X) → Has passing x → P ((out x).1)) → AllByRecursion P rows
all_shown q out passing rows it P good = subst (AllByRecursion P) (sym it.rows_are)
    (all-map P (λ x. (out x).1) it.values (all_from _ it.values (λ x h. good x (permutation_from passing it.values x it.same h))))

first_same : {C : Type 0} {a b : C} {cs ds : List C} → a ∷ cs ≡ b ∷ ds → a ≡ b
first_same e = cc

rest_same : {C : Type 0} {a b : C} {cs ds : List C} → a ∷ cs ≡ b ∷ ds → cs ≡ ds
rest_same e = cc

-- The values that were read of the rows are the values of the table.
module _ {X V C : Type 0} (q : Query) (out : X → Output) (passing : List X) (rows : List Row) (it : Answers q out passing rows)
    (row_of : V → X) (show : V → C) (read : Row → C) (found : List V) (was : map show found ≡ map read rows)
    (back : (v : V) (x : X) → Has passing x → show v ≡ read ((out x).1) → row_of v ≡ x) where
  values_read : (vs : List V) (xs : List X) → ((x : X) → Has xs x → Has passing x)
      → map show vs ≡ map read (map (λ x. (out x).1) xs) → map row_of vs ≡ xs
  values_read [] [] from e = refl
  values_read (v ∷ vs) (x ∷ xs) from e =
      let first : show v ≡ read ((out x).1) = first_same e in
      let rest : map show vs ≡ map read (map (λ x. (out x).1) xs) = rest_same e in
      ap₂ ◌∷◌ (back v x (from x (inl refl)) first) (values_read vs xs (λ y h. from y (inr h)) rest)
  values_read vs xs from e = absurd (cc)

  found_is : map row_of found ≡ it.values
  found_is = values_read found it.values (λ x h. permutation_from passing it.values x it.same h) (was ∙ ap (map read) it.rows_are)

  pub listed : (UpTo : X → X → Type 0) → ((x y : X) → IsUpTo (output_cmp q) (output_total q) (out x) (out y) → UpTo x y)
      → IsListed UpTo passing (map row_of found)
  listed UpTo up_is = record {
    same = subst (IsPermutation passing) (sym found_is) it.same;
    rising = subst (IsAscending UpTo) (sym found_is)
        (ascending_weaker (λ x y. IsUpTo (output_cmp q) (output_total q) (out x) (out y)) UpTo up_is it.values it.rising);
  }
