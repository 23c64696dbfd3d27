-- A list in which each element comes before all later ones is the only order of its elements, if these differ. For the rows of
-- cells and of holders.
use Rattle.std.proofs.Common.{◌≡◌, ◌≢◌, inl, inr, List, [], ◌∷◌, true, false, is_lt, Ordering, refl, sym, ap₂, ◌∙◌, arith}
use Rattle.std.specs.Cmp.{IsTotalOrder}
use Rattle.sqlite_trees.specs.Tree.{IsAscending}
use Rattle.sqlite_rules.specs.Lists.{Has}
use Rattle.sqlite_rules.proofs.ListLemmas.{all_has}
use Rattle.desk_sql.specs.RemainingRows.{IsOnlyOrder}
use Rattle.desk_sql.proofs.Members.{permutation_from, permutation_to}
use Rattle.sql_model.proofs.Orders.{pairs-permutation}

module _ {X : Type 0} (IsUpTo IsBefore : X → X → Type 0) (off : (a b : X) → IsBefore a b → IsUpTo b a → ⊥) (never : (a : X) → IsBefore a a → ⊥) where
  one_order : (xs ys : List X) → IsAscending IsUpTo xs → IsAscending ◌≢◌ xs → IsAscending IsBefore ys
      → ((r : X) → Has xs r → Has ys r) → ((r : X) → Has ys r → Has xs r) → xs ≡ ys
  one_order [] [] up apart strict a b = refl
  one_order [] (y ∷ ys) up apart strict a b = absurd (b y (inl refl))
  one_order (x ∷ xs) [] up apart strict a b = absurd (a x (inl refl))
  one_order (x ∷ xs) (y ∷ ys) up apart strict a b =
      let first : x ≡ y = grind (arith, off y x, all_has, a x (inl refl), b y (inl refl)) in
      ap₂ ◌∷◌ first (one_order xs ys up.1 apart.1 strict.1
      (λ r h. grind (arith, a r (inr h), all_has, first)) (λ r h. grind (arith, b r (inr h), never y, all_has, first)))

  pub only_order : (some ys : List X) → IsAscending ◌≢◌ some → IsAscending IsBefore ys
      → ((r : X) → Has some r → Has ys r) → ((r : X) → Has ys r → Has some r) → IsOnlyOrder IsUpTo some ys
  only_order some ys apart strict a b other listed =
      one_order other ys listed.rising (pairs-permutation ◌≢◌ (λ x y differ e. differ (sym e)) some other listed.same apart) strict
      (λ r h. a r (permutation_from some other r listed.same h)) (λ r h. permutation_to some other r listed.same (b r h))

-- the same, by a comparison
module _ {X : Type 0} (cmp : X → X → Ordering) (total : IsTotalOrder cmp) where
  -- no element is before itself
  pub not_before : (x : X) → is_lt (cmp x x) ≡ true → ⊥
  not_before x e = grind arith

  pub only_compared : (some ys : List X) → IsAscending ◌≢◌ some → IsAscending (λ a b. is_lt (cmp a b) ≡ true) ys
      → ((r : X) → Has some r → Has ys r) → ((r : X) → Has ys r → Has some r) → IsOnlyOrder (λ a b. is_lt (cmp b a) ≡ false) some ys
  only_compared =
      only_order (λ a b. is_lt (cmp b a) ≡ false) (λ a b. is_lt (cmp a b) ≡ true)
      (λ a b before up. let bad : true ≡ false = sym before ∙ up in cc) not_before
