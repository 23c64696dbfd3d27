-- Items whose numbers rise, in ranges of their numbers. For the functions that copy them.
use Rattle.std.proofs.Common.{◌≡◌, ◌+◌, ◌<◌, ◌≤◌, ◌&&◌, inl, inr, ℕ, List, [], ◌∷◌, ◌++◌, filter, Bool, true, false, refl, ap, ◌∙◌, arith, nat_lt, nat_le, rules}
use Rattle.std.proofs.lemmas.Bool.{cases_Bool, ltb-true, ltb-false, lt-ltb, le-ltb}
use Rattle.std.proofs.lemmas.Bool.Decides.{nat_tests}
use Rattle.std.specs.List.{AllByRecursion}
use Rattle.sqlite_rules.specs.Lists.{Has}
use Rattle.sqlite_rules.proofs.ListLemmas.{all_has, all_from}
use Rattle.sqlite_trees.specs.Tree.{IsAscending}
use Rattle.desk_sql.specs.Rows.{EntryRow}
use Rattle.tables.specs.Copying.{items_below}
use Rattle.sqlite_trees.proofs.ListLemmas.{filter_none, filter_all, filter_same}

-- the item's number lies between these two, both included
abbrev pub is_between : ℕ → ℕ → EntryRow → Bool
is_between first last e = nat_le first e.num && nat_le e.num last

-- the numbers rise
abbrev pub Rises : List EntryRow → Type 0
Rises = IsAscending (λ (a b : EntryRow). a.num < b.num)

-- a number below the range is outside of it
outside : (n first last : ℕ) → n < first → (nat_le first n && nat_le n last) ≡ false
outside n first last low = let no : nat_le first n ≡ false = grind (arith, nat_tests, low) in rw no refl

-- from the first number on, a number is in the range exactly if it is below its end
within : (n first last : ℕ) → first ≤ n → (nat_le first n && nat_le n last) ≡ nat_lt n (last + 1)
within n first last high = search (rules, arith, nat_tests)

-- no item is below 0
pub items_below-zero : (items : List EntryRow) → items_below 0 items ≡ []
items_below-zero items = search (rules, arith, filter_none, all_from, le-ltb)

-- all items are below a number that is above theirs
pub items_below-all : (n : ℕ) (items : List EntryRow) → AllByRecursion (λ (e : EntryRow). e.num < n) items → items_below n items ≡ items
items_below-all n items low = search (rules, arith, filter_all, all_from, lt-ltb, all_has)

-- where this item is not below the first number, no later item is
above_first : (first : ℕ) (x : EntryRow) (xs : List EntryRow) → AllByRecursion (λ (z : EntryRow). x.num < z.num) xs → first ≤ x.num
    → (y : EntryRow) → Has (x ∷ xs) y → first ≤ y.num
above_first first x xs rise high y it = search (rules, arith, all_has)

-- the items below a range, and those in it, are the items below its end
pub items_below-next : (first last : ℕ) → first ≤ last → (items : List EntryRow) → Rises items
    → items_below first items ++ filter (is_between first last) items ≡ items_below (last + 1) items
items_below-next first last order [] rise = refl
items_below-next first last order (x ∷ xs) rise = elim (cases_Bool (nat_lt x.num first)) [
  | inl e ↦ (
      let low = ltb-true x.num first e in
      let out : is_between first last x ≡ false = outside x.num first last low in
      let next : nat_lt x.num (last + 1) ≡ true = lt-ltb x.num (last + 1) (omega arith) in
      rw (e, out, next) (ap (λ r. x ∷ r) (items_below-next first last order xs rise.1)))
  | inr e ↦ (
      let high = ltb-false x.num first e in
      let above = above_first first x xs rise.0 high in
      let none : items_below first (x ∷ xs) ≡ []
      = filter_none (λ (y : EntryRow). nat_lt y.num first) (x ∷ xs) (all_from _ (x ∷ xs) (λ y h. le-ltb y.num first (above y h))) in
      let rest : filter (is_between first last) (x ∷ xs) ≡ items_below (last + 1) (x ∷ xs)
      = filter_same (is_between first last) (λ (y : EntryRow). nat_lt y.num (last + 1)) (x ∷ xs)
      (all_from _ (x ∷ xs) (λ y h. within y.num first last (above y h))) in
      ap (λ r. r ++ filter (is_between first last) (x ∷ xs)) none ∙ rest)
]
