-- Tables as lists of values, each with its rowid, in ascending order of rowid. For the lemmas of each statement that writes.
use Rattle.std.proofs.Common.{◌≡◌, ◌+ℤ◌, ◌<ℤ◌, ℤ, pos, fold, List, [], ◌∷◌, ◌++◌, map, Bool, true, if◌then◌else◌, Less, refl, sym, ap, ap₂, ◌∙◌, arith, ℕ, ◌<◌, filter, rules, subst}
use Rattle.std.proofs.lemmas.Int.{ints}
use Rattle.std.proofs.lemmas.Bool.{cases_Bool}
use Rattle.std.specs.List.{AllByRecursion}
use Rattle.std.specs.Cmp.{int_cmp_is}
use Rattle.sqlite_value.specs.declared.value.Value.TheVariants.{Int}
use Rattle.sqlite_value.proofs.OrderLemmas.{value_cmp-Int}
use Rattle.sqlite.specs.Order.{Row, value_cmp}
use Rattle.sqlite_trees.specs.Tree.{rowid, put_row, IsTable, IsAscending}
use Rattle.sqlite_rules.specs.Lists.{Has}
use Rattle.sqlite_rules.proofs.ProbeLemmas.{mapped_has}
use Rattle.sqlite_rules.specs.Edit.{next_rowid, id_in}
use Rattle.sqlite_trees.proofs.ListLemmas.{all_weaker, ascending-append, ascending-map, ascending_weaker, ascending-filter, filter-map}
use Rattle.desk_sql.specs.Lists.{changed, numbered_row, IsTableOf, IsNumbered}
use Rattle.std.proofs.lemmas.List.{map-append}
use Rattle.desk_sql.specs.Rows.{whole}

-- Tables as lists of values, each with its rowid, in ascending order of rowid.

-- a smaller rowid comes first
pub int_below : (a b : ℤ) → a <ℤ b → value_cmp (Int a) (Int b) ≡ Less
int_below a b low = value_cmp-Int a b ∙ sym (int_cmp_is a b Less (omega (arith, ints)))

module _ {X : Type 0} (f : X → Row) (id : X → ℤ) (keyed : (x : X) → rowid (f x) ≡ Int (id x)) where
  abbrev pub Rises : List X → Type 0
  Rises xs = IsAscending (λ x y. id x <ℤ id y) xs

  -- every rowid is below this one
  abbrev pub AreBelow : ℤ → List X → Type 0
  AreBelow n xs = AllByRecursion (λ x. id x <ℤ n) xs

  -- the rows of values whose rowids ascend are a table
  pub is_table : (xs : List X) → Rises xs → IsTable (map f xs)
  is_table xs rise = search (rules, arith, ascending-map, ascending_weaker, int_below)

  -- a row whose rowid is above all others is appended
  pub put_last : (xs : List X) (x : X) → AreBelow (id x) xs → put_row (f x) (map f xs) ≡ map f (xs ++ x ∷ [])
  put_last [] x below = refl
  put_last (y ∷ xs) x below = search (rules, arith, int_below, put_last xs x)

  pub rises_last : (xs : List X) (x : X) → Rises xs → AreBelow (id x) xs → Rises (xs ++ x ∷ [])
  rises_last xs x rise below = search (rules, arith, ascending-append, all_weaker)

  abbrev next_id : ℤ → List Row → ℤ
  next_id = fold (λ _ r. id_in (rowid r) +ℤ pos 1)

  stays_below : (n d : ℤ) (xs : List X) → AllByRecursion (λ x. n <ℤ id x) xs → n <ℤ d → n <ℤ next_id d (map f xs)
  stays_below n d [] above low = low
  stays_below n d (x ∷ xs) above low =
      let own : id_in (rowid (f x)) ≡ id x = ap id_in (keyed x) in
      stays_below n (id_in (rowid (f x)) +ℤ pos 1) xs above.1 (omega (arith, ints, above.0, own))

  all_below : (d : ℤ) (xs : List X) → Rises xs → AreBelow (next_id d (map f xs)) xs
  all_below d [] rise = tt
  all_below d (x ∷ xs) rise =
      let own : id_in (rowid (f x)) ≡ id x = ap id_in (keyed x) in
      let next = id_in (rowid (f x)) +ℤ pos 1 in
      (stays_below (id x) next xs rise.0 (omega (arith, ints, own)), all_below next xs rise.1)

  -- the next rowid is above all others
  pub next_above : (xs : List X) → Rises xs → AreBelow (next_rowid (map f xs)) xs
  next_above xs rise = all_below (pos 1) xs rise

  -- a change of rows is a change of values
  pub changed_rows : (p : Row → Bool) (q : X → Bool) (g : Row → Row) (h : X → X) → ((x : X) → p (f x) ≡ q x)
      → (xs : List X) → ((x : X) → Has xs x → q x ≡ true → g (f x) ≡ f (h x))
      → changed p g (map f xs) ≡ map f (changed q h xs)
  changed_rows p q g h tests [] gives = refl
  changed_rows p q g h tests (x ∷ xs) gives = search (rules, arith, changed_rows p q g h tests xs)

  -- a change that keeps rowids keeps their order
  pub changed_rises : (q : X → Bool) (h : X → X) → ((x : X) → id (h x) ≡ id x) → (xs : List X) → Rises xs
      → Rises (changed q h xs)
  changed_rises q h same xs rise = search (rules, arith, ascending-map, ascending_weaker, cases_Bool)

-- A table of typed rows after one more row, or after a change.

module _ {X : Type 0} where
  abbrev pub id_of : ℤ × X → ℤ
  id_of p = p.0

  abbrev pub value_of : ℤ × X → X
  value_of p = p.1

  -- a value under a rowid is one of the table, and so is its row
  pub value_there : (columns : X → Row) (rows : List Row) (xs : List X) (it : IsTableOf columns rows xs) (p : ℤ × X) → Has it.numbered p
      → Has xs p.1 × Has rows (numbered_row columns p)
  value_there columns rows xs it p there = (
    subst (λ ys. Has ys p.1) (sym it.values_are) (mapped_has value_of it.numbered p there),
    subst (λ rs. Has rs (numbered_row columns p)) (sym it.rows_are) (mapped_has (numbered_row columns) it.numbered p there),
  )

  -- a row under the next rowid is appended
  pub appended : (columns : X → Row) (rows : List Row) (xs : List X) (x : X) → IsTableOf columns rows xs
      → IsTableOf columns (put_row (numbered_row columns (next_rowid rows, x)) rows) (xs ++ x ∷ [])
  appended columns rows xs x it =
      let ps = it.numbered in
      let next = next_rowid (map (numbered_row columns) ps) in
      let below = next_above (numbered_row columns) id_of (λ _. refl) ps it.rise in
      record {
        numbered = ps ++ (next, x) ∷ [];
        values_are = ap (λ ys. ys ++ x ∷ []) it.values_are ∙ sym (map-append value_of ps ((next, x) ∷ []));
        rows_are = ap (λ rs. put_row (numbered_row columns (next_rowid rs, x)) rs) it.rows_are
            ∙ put_last (numbered_row columns) id_of (λ _. refl) ps (next, x) below;
        rise = rises_last (numbered_row columns) id_of (λ _. refl) ps (next, x) it.rise below;
      }

  values_changed : (q : X → Bool) (h : X → X) (ps : List (ℤ × X))
      → map value_of (changed (λ p. q p.1) (λ p. (p.0, h p.1)) ps) ≡ changed q h (map value_of ps)
  values_changed q h [] = refl
  values_changed q h (p ∷ ps) = ap₂ ◌∷◌ (one (q p.1)) (values_changed q h ps)
    where
      one : (b : Bool) → value_of (if b then (p.0, h p.1) else p) ≡ (if b then h p.1 else p.1)
      one b = search (rules, arith)

  -- a change leaves each row under its rowid
  pub replaced_values : (columns : X → Row) (rows new : List Row) (xs : List X) (q : X → Bool) (h : X → X)
      → (it : IsTableOf columns rows xs)
      → new ≡ map (numbered_row columns) (changed (λ p. q p.1) (λ p. (p.0, h p.1)) it.numbered)
      → IsTableOf columns new (changed q h xs)
  replaced_values columns rows new xs q h it is =
      let ps = it.numbered in
      record {
        numbered = changed (λ p. q p.1) (λ p. (p.0, h p.1)) ps;
        values_are = ap (changed q h) it.values_are ∙ sym (values_changed q h ps);
        rows_are = is;
        rise = changed_rises (numbered_row columns) id_of (λ _. refl) (λ p. q p.1) (λ p. (p.0, h p.1)) (λ _. refl) ps it.rise;
      }

  -- the rows that are kept are under their rowids
  pub kept_values : (columns : X → Row) (rows new : List Row) (xs : List X) (test : X → Bool) → (it : IsTableOf columns rows xs)
      → new ≡ map (numbered_row columns) (filter (λ p. test p.1) it.numbered) → IsTableOf columns new (filter test xs)
  kept_values columns rows new xs test it is = search (rules, arith, filter-map, ascending-filter)

  module _ (number : X → ℕ) (row_of : X → Row) (keyed : (x : X) → rowid (row_of x) ≡ whole (number x)) where
    abbrev pub own_id : X → ℤ
    own_id x = pos (number x)

    pub own_rise : (xs : List X) → IsAscending (λ x y. number x < number y) xs → IsAscending (λ x y. own_id x <ℤ own_id y) xs
    own_rise xs = ascending_weaker (λ (x y : X). number x < number y) (λ (x y : X). own_id x <ℤ own_id y) (λ x y low. omega (arith, ints)) xs

    own_below : (n : ℕ) (xs : List X) → AllByRecursion (λ x. number x < n) xs → AllByRecursion (λ x. own_id x <ℤ pos n) xs
    own_below n = all_weaker (λ x. number x < n) (λ x. own_id x <ℤ pos n) (λ x low. omega (arith, ints, low))

    back : (xs : List X) → IsAscending (λ x y. own_id x <ℤ own_id y) xs → IsAscending (λ x y. number x < number y) xs
    back xs = ascending_weaker (λ (x y : X). own_id x <ℤ own_id y) (λ (x y : X). number x < number y) (λ x y low. omega (arith, ints)) xs

    -- a row with a greater number is appended
    pub numbered_last : (rows : List Row) (xs : List X) (x : X) → IsNumbered number row_of rows xs
        → AllByRecursion (λ y. number y < number x) xs → IsNumbered number row_of (put_row (row_of x) rows) (xs ++ x ∷ [])
    numbered_last rows xs x it below = record {
      rows_are = ap (put_row (row_of x)) it.rows_are ∙ put_last row_of own_id keyed xs x (own_below (number x) xs below);
      rise = back (xs ++ x ∷ []) (rises_last row_of own_id keyed xs x (own_rise xs it.rise) (own_below (number x) xs below));
    }

    -- a change that keeps numbers leaves each row under its own number
    pub numbered_changed : (rows new : List Row) (xs : List X) (q : X → Bool) (h : X → X) → ((x : X) → number (h x) ≡ number x)
        → IsNumbered number row_of rows xs → new ≡ map row_of (changed q h xs) → IsNumbered number row_of new (changed q h xs)
    numbered_changed rows new xs q h same it is = record {
      rows_are = is;
      rise = back (changed q h xs) (changed_rises row_of own_id keyed q h (λ x. ap pos (same x)) xs (own_rise xs it.rise));
    }
