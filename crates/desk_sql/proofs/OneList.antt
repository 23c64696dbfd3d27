-- A list whose numbers differ has just one ascending order. For Listings, and for lists of journeys and cells.
use Rattle.std.proofs.Common.{◌≡◌, ℕ, ◌<◌, ◌≤◌, ◌==◌, List, [], ◌∷◌, Bool, false, arith, ne_eqb, IsPermutation, rules}
use Rattle.std.proofs.lemmas.Bool.{eqb-false}
use Rattle.std.proofs.lemmas.Bool.Decides.{nat_tests}
use Rattle.std.proofs.lemmas.Map.Keys.{IsDistinct-IsPermutation}
use Rattle.std.specs.List.{IsDistinct}
use Rattle.sqlite_rules.proofs.ListLemmas.{all_has, all_from}
use Rattle.sqlite_trees.specs.Tree.{IsAscending}
use Rattle.desk_sql.proofs.Members.{permutation_from, permutation_to, one_order}

module _ {X : Type 0} (key : X → ℕ) where
  abbrev Rises : List X → Type 0
  Rises xs = IsAscending (λ a b. key a < key b) xs

  -- two elements have the same number
  abbrev same_key : X → X → Bool
  same_key a b = key a == key b

  flips : (a b : X) → same_key a b ≡ same_key b a
  flips a b = grind (arith, nat_tests)

  -- in an ascending list no two have
  distinct : (xs : List X) → Rises xs → IsDistinct same_key xs
  unfolding IsDistinct
  distinct [] up = tt
  distinct (x ∷ xs) up = (all_from (λ y. same_key x y ≡ false) xs (λ y there. ne_eqb (key x) (key y) (λ same. let low = all_has _ xs y up.0 there in omega (arith, low, same))), distinct xs up.1)

  -- a list that does not descend, and in which no two have the same number, ascends
  strict : (ys : List X) → IsAscending (λ a b. key a ≤ key b) ys → IsDistinct same_key ys → Rises ys
  unfolding IsDistinct
  strict [] up apart = tt
  strict (y ∷ ys) up apart = search (rules, arith, all_from, all_has, eqb-false, strict ys up.1 apart.1)

  -- an ascending list is the only order of its elements that does not descend
  pub one_list : (xs ys : List X) → Rises xs → IsPermutation xs ys → IsAscending (λ a b. key a ≤ key b) ys → ys ≡ xs
  one_list xs ys rise same up =
      one_order (λ (a b : X). key a < key b) (λ a b low high. omega (arith, low, high)) ys xs (strict ys up (IsDistinct-IsPermutation same_key flips xs ys same (distinct xs rise)))
      rise (λ x h. permutation_from xs ys x same h) (λ x h. permutation_to xs ys x same h)
