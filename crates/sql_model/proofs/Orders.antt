-- Rows in another order: they still differ from each other, and just one of their orders rises. For Readings.
use Rattle.std.proofs.Common.{◌≡◌, ◌⊎◌, inl, inr, ℕ, ◌<◌, List, [], ◌∷◌, Bool, true, false, filter, find, Option, Some, None, refl, sym, ap, arith, rules}
use Rattle.std.specs.List.Sorted.{IsPermutation}
use Rattle.std.proofs.lemmas.List.Sorted.{IsPermutation-refl, IsPermutation-sym, IsPermutation-cons, IsPermutation-middle, IsPermutation-trans}
use Rattle.sqlite_trees.specs.Tree.{IsAscending}
use Rattle.sqlite_trees.proofs.ListLemmas.{along_permutation, all-permutation, all_both, ascending_weaker, filter_none}
use Rattle.sqlite_rules.specs.Lists.{Has}
use Rattle.sqlite_rules.proofs.ListLemmas.{all_has, all_from, has_filtered, has_kept, has_found}
use Rattle.desk_sql.specs.Lists.{IsOneOf, IsLeastOf}
use Rattle.desk_sql.proofs.Members.{permutation_from, permutation_to, one_order as one_of_two}
use Rattle.sql_model.specs.Standing.{AreApart}
use Rattle.sql_model.proofs.Finding.{find-none, none_passes}

-- each element is below all that come later
abbrev pub Rises : {X : Type 0} → (X → ℕ) → List X → Type 0
Rises key xs = IsAscending (λ a b. key a < key b) xs

-- Pairs.

-- a symmetric relation of each two elements holds in every order
pub pairs-permutation : {X : Type 0} (R : X → X → Type 0) → ((a b : X) → R a b → R b a) → (xs ys : List X)
    → IsPermutation xs ys → IsAscending R xs → IsAscending R ys
pairs-permutation R back xs ys same =
    (along_permutation (λ ls ms. IsPermutation ls ms × (IsAscending R ls → IsAscending R ms))
    (λ ls. (IsPermutation-refl ls, λ up. up))
    (λ a ls ms h. (IsPermutation-cons a ls ms h.0, λ up. (all-permutation (R a) ls ms h.0 up.0, h.1 up.1)))
    (λ a b ls. (IsPermutation-middle (a ∷ []) b ls, λ up. ((back a b up.0.0, up.1.0), (up.0.1, up.1.1))))
    (λ ls ms ns h k. (IsPermutation-trans ls ms ns h.0 k.0, λ up. k.1 (h.1 up))) xs ys same).1

-- a relation that implies another for the elements of a list implies it for its pairs
pub ascending_where : {X : Type 0} (R S : X → X → Type 0) (xs : List X)
    → ((a b : X) → Has xs a → Has xs b → R a b → S a b) → IsAscending R xs → IsAscending S xs
ascending_where R S [] follows up = tt
ascending_where R S (x ∷ xs) follows up = search (rules, arith, all_from, all_has, ascending_where R S xs)

-- two relations that imply a third imply it for the pairs of a list
pub ascending_both : {X : Type 0} (R S T : X → X → Type 0) → ((a b : X) → R a b → S a b → T a b) → (xs : List X)
    → IsAscending R xs → IsAscending S xs → IsAscending T xs
ascending_both R S T follows [] p q = tt
ascending_both R S T follows (x ∷ xs) p q = search (rules, arith, all_both, ascending_both R S T follows xs p.1 q.1)

-- One order.

-- two rising lists with the same elements are equal
pub one_rising : {X : Type 0} (key : X → ℕ) (xs ys : List X) → Rises key xs → Rises key ys
    → ((x : X) → Has xs x → Has ys x) → ((x : X) → Has ys x → Has xs x) → xs ≡ ys
one_rising key xs ys p q a b = one_of_two (λ a b. key a < key b) (λ a b low high. omega arith) xs ys p q a b

-- a list that rises is the only rising order of its elements
pub one_order : {X : Type 0} (key : X → ℕ) (xs ys : List X) → IsPermutation xs ys → Rises key xs
    → Rises key ys → ys ≡ xs
one_order key xs ys same p q = search (rules, arith, one_rising, permutation_from, permutation_to)

-- an ascending list is the only order of its elements that does not fall
pub found_in_order : {X : Type 0} (S R : X → X → Type 0) → ((a b : X) → S a b → S b a → ⊥) → ((a b : X) → R a b → S b a → ⊥)
    → (xs ys : List X) → IsPermutation xs ys → IsAscending S xs → IsAscending R ys → ys ≡ xs
found_in_order {X} S R never falls xs ys same up sorted =
    sym
    (one_of_two S never xs ys up (ascending_both R Differ S climbs ys sorted differ)
    (λ x h. permutation_to xs ys x same h) (λ x h. permutation_from xs ys x same h))
  where
    Differ : X → X → Type 0
    Differ a b = S a b ⊎ S b a

    climbs : (a b : X) → R a b → Differ a b → S a b
    climbs a b r (inl s) = s
    climbs a b r (inr s) = absurd (falls a b r s)

    turned : (a b : X) → Differ a b → Differ b a
    turned a b (inl s) = inr s
    turned a b (inr s) = inl s

    differ : IsAscending Differ ys
    differ = pairs-permutation Differ turned xs ys same (ascending_weaker S Differ (λ a b s. inl s) xs up)

-- One of a kind.

-- of elements that are apart, two that are the same are one
pub one_alike : {X : Type 0} (same : X → X → Bool) (xs : List X) (a b : X) → AreApart same xs → Has xs a → Has xs b
    → same a b ≡ true → same b a ≡ true → a ≡ b
one_alike same [] a b up h k p q = absurd h
one_alike same (x ∷ xs) a b up h k p q = search (rules, arith, all_has, one_alike same xs a b)

-- so at most one passes, if those that pass are the same
pub found_is_first : {X : Type 0} (same : X → X → Bool) (test : X → Bool) (xs : List X) (found : Option X)
    → AreApart same xs
    → ((a b : X) → test a ≡ true → test b ≡ true → same a b ≡ true) → IsOneOf (filter test xs) found
    → find test xs ≡ found
found_is_first {X} same test xs found apart alike one = go (find test xs) refl found one
  where
    go : (o : Option X) → find test xs ≡ o → (p : Option X) → IsOneOf (filter test xs) p → o ≡ p
    go None e None is = refl
    go None e (Some b) is =
        let there = has_filtered test xs b is in absurd (none_passes test xs b e there.0 there.1)
    go (Some a) e None is = let there = has_found test xs a e in absurd (rw is at (has_kept test xs a there.0 there.1))
    go (Some a) e (Some b) is =
        let here = has_found test xs a e in
        let there = has_filtered test xs b is in
        ap Some (one_alike same xs a b apart here.0 there.0 (alike a b here.1 there.1) (alike b a there.1 here.1))

-- it is found in each order
pub find-permutation : {X : Type 0} (same : X → X → Bool) (test : X → Bool) (xs ys : List X) → AreApart same xs
    → ((a b : X) → test a ≡ true → test b ≡ true → same a b ≡ true) → IsPermutation xs ys
    → find test xs ≡ find test ys
find-permutation {X} same test xs ys apart alike moved =
    found_is_first same test xs (find test ys) apart alike (one (find test ys) refl)
  where
    one : (o : Option X) → find test ys ≡ o → IsOneOf (filter test xs) o
    one None e =
        filter_none test xs (all-permutation (λ x. test x ≡ false) ys xs (IsPermutation-sym xs ys moved) (find-none test ys e))
    one (Some y) e =
        let there = has_found test ys y e in has_kept test xs y (permutation_from xs ys y moved there.0) there.1

-- The least.

first_least : {X : Type 0} (key : X → ℕ) (test : X → Bool) (xs : List X) (y x : X) → Rises key xs
    → find test xs ≡ Some y → Has xs x → test x ≡ true → (x ≡ y) ⊎ (key y < key x)
first_least key test [] y x up found h passes = absurd h
first_least key test (z ∷ xs) y x up found h passes = search (rules, arith, all_has, first_least key test xs y x)

-- the row with the least number that passes is the first one that passes, in the order of numbers
pub least_is_first : {X : Type 0} (key : X → ℕ) (test : X → Bool) (xs rows : List X) (found : Option X)
    → Rises key xs → IsPermutation xs rows → IsLeastOf key (filter test rows) found
    → find test xs ≡ found
least_is_first {X} key test xs rows found up same least = go (find test xs) refl found least
  where
    go : (o : Option X) → find test xs ≡ o → (p : Option X) → IsLeastOf key (filter test rows) p → o ≡ p
    go None e None none = refl
    go None e (Some x) least =
        let here = has_filtered test rows x least.0 in
        absurd (none_passes test xs x e (permutation_from xs rows x same here.0) here.1)
    go (Some y) e None none =
        let there = has_found test xs y e in
        absurd (rw none at (has_kept test rows y (permutation_to xs rows y same there.0) there.1))
    go (Some y) e (Some x) least =
        let there = has_found test xs y e in
        let here = has_filtered test rows x least.0 in
        let low = least.1 y (has_kept test rows y (permutation_to xs rows y same there.0) there.1) in
        elim (first_least key test xs y x up e (permutation_from xs rows x same here.0) here.1) [
          | inl is ↦ ap Some (sym is)
          | inr high ↦ absurd (omega arith)
        ]
