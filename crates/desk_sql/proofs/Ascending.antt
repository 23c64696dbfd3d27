-- A sorted list: no element is above a later one, for each ORDER BY. For Answering.
use Rattle.std.proofs.Common.{◌≡◌, ◌⊎◌, ℕ, suc, ◌+◌, List, [], ◌∷◌, map, get_or, false, Ordering, Less, Equal, is_lt, refl, subst, arith, IsSorted, rules}
use Rattle.std.specs.Cmp.{IsTotalOrder}
use Rattle.std.proofs.lemmas.Cmp.{on_total, then_total}
use Rattle.sqlite.specs.Order.{Row, column}
use Rattle.sqlite.specs.Query.{Query, Output, output_cmp, key_cmp}
use Rattle.sqlite_value.specs.declared.keys.Key.{Key}
use Rattle.sqlite_value.proofs.KeyLemmas.{by_key_total}
use Rattle.sqlite_rules.proofs.ListLemmas.{all_has, all_from}
use Rattle.sqlite_trees.specs.Tree.{IsAscending}

module _ {X : Type 0} (cmp : X → X → Ordering) (total : IsTotalOrder cmp) where
  -- a is not above b
  abbrev pub IsUpTo : X → X → Type 0
  IsUpTo a b = is_lt (cmp b a) ≡ false

  below : (a b : X) → IsUpTo a b → (cmp a b ≡ Less) ⊎ (cmp a b ≡ Equal)
  below a b e = search (rules, arith)

  over : (a b x : X) → IsUpTo a b → IsUpTo b x → IsUpTo a x
  over a b x e f = search (rules, arith, below)

  -- of a sorted list no element is above a later one
  pub ascends : (ys : List X) → IsSorted cmp ys → IsAscending IsUpTo ys
  ascends [] up = tt
  ascends (y ∷ []) up = (tt, tt)
  ascends (y ∷ z ∷ ys) up =
      let rest = ascends (z ∷ ys) (λ k d low high.
      subst (λ i. is_lt (cmp (get_or (y ∷ z ∷ ys) i d) (get_or (y ∷ z ∷ ys) (suc k) d)) ≡ false)
      (let e : suc k + 1 ≡ suc (k + 1) = omega arith in e) (up (suc k) d (omega arith) (omega arith))) in
      let first : IsUpTo y z = up 0 y (omega arith) (omega arith) in
      ((first, all_from _ ys (λ x h. over y z x first (all_has _ ys x rest.0 h))), rest)

always_tied : IsTotalOrder (λ (a b : Row). Equal)
always_tied = record { antisymm = λ a b. refl; trans = λ a b c e f. cc; congr = λ a b c e. refl }

key_cmp_total : (at : ℕ) (ks : List Key) → IsTotalOrder (key_cmp at ks)
key_cmp_total at [] = always_tied
key_cmp_total at (k ∷ ks) = then_total (on_total (λ (r : Row). column r at) (by_key_total k)) (key_cmp_total (suc at) ks)

-- the order of outputs is total, for each ORDER BY
pub output_total : (q : Query) → IsTotalOrder (output_cmp q)
output_total q = on_total (λ (o : Output). o.0) (key_cmp_total 0 (map (λ k. k.1) q.order))
