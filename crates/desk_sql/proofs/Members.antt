-- Lists with the same elements. For the lemmas on lists.
use Rattle.std.proofs.Common.{◌≡◌, inl, inr, List, [], ◌∷◌, refl, sym, ap₂, ◌∙◌, IsPermutation, subst}
use Rattle.std.specs.List.{AllByRecursion}
use Rattle.std.proofs.lemmas.List.Sorted.{IsPermutation-sym}
use Rattle.sqlite_rules.specs.Lists.{Has}
use Rattle.sqlite_rules.proofs.ListLemmas.{all_has, all_from}
use Rattle.sqlite_trees.specs.Tree.{IsAscending}
use Rattle.sqlite_trees.proofs.ListLemmas.{all-permutation}

-- a permutation has no further elements
pub permutation_from : {X : Type 0} (xs ys : List X) (x : X) → IsPermutation xs ys → Has ys x → Has xs x
permutation_from xs ys x same h = all_has (Has xs) ys x (all-permutation (Has xs) xs ys same (all_from (Has xs) xs (λ _ there. there))) h

pub permutation_to : {X : Type 0} (xs ys : List X) (x : X) → IsPermutation xs ys → Has xs x → Has ys x
permutation_to xs ys x same h = permutation_from ys xs x (IsPermutation-sym xs ys same) h

-- two ascending lists with the same elements are equal, if no two elements are in both orders
module _ {X : Type 0} (R : X → X → Type 0) (never : (a b : X) → R a b → R b a → ⊥) where
  pub one_order : (xs ys : List X) → IsAscending R xs → IsAscending R ys → ((x : X) → Has xs x → Has ys x) → ((x : X) → Has ys x → Has xs x) → xs ≡ ys
  one_order [] [] p q a b = refl
  one_order [] (y ∷ ys) p q a b = absurd (b y (inl refl))
  one_order (x ∷ xs) [] p q a b = absurd (a x (inl refl))
  one_order (x ∷ xs) (y ∷ ys) p q a b =
      let first : x ≡ y = elim (a x (inl refl)) [
        | inl e ↦ e
        | inr later ↦ elim (b y (inl refl)) [
          | inl e ↦ sym e
          | inr also ↦ absurd (never x y (all_has (R x) xs y p.0 also) (all_has (R y) ys x q.0 later))
        ]
      ] in
      let past = λ (z : X) (zs : List X) (up : AllByRecursion (R z) zs) (r : X) (h : Has zs r) (e : r ≡ z).
      let lower = subst (R z) e (all_has (R z) zs r up h) in never z z lower lower in
      ap₂ ◌∷◌ first (one_order xs ys p.1 q.1
      (λ r h. elim (a r (inr h)) [ inl e ↦ absurd (past x xs p.0 r h (e ∙ sym first)) | inr k ↦ k ])
      (λ r h. elim (b r (inr h)) [ inl e ↦ absurd (past y ys q.0 r h (e ∙ first)) | inr k ↦ k ]))
