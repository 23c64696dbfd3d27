-- The elements of a list to which one was appended, or of which one was replaced. For a book in memory.
use Rattle.std.proofs.Common.{◌≡◌, ℕ, zero, suc, ◌⊎◌, inl, inr, List, [], ◌∷◌, ◌++◌, length, map, refl, ap, sym, ◌∙◌, arith, slice_get, slice_set, Some}
use Rattle.std.proofs.Math.Seq.{map-set_same}
use Rattle.std.proofs.lemmas.Option.{get_or_from_slice_get}

-- an element of a list with one appended is one of the others or the last
pub place_of-push : {X : Type 0} (xs : List X) (x : X) (i : ℕ) (y : X)
    → slice_get (xs ++ x ∷ []) i ≡ Some y
    → (slice_get xs i ≡ Some y) ⊎ ((i ≡ length xs) × (y ≡ x))
place_of-push [] x zero y e = inr (refl, cc)
place_of-push [] x (suc i) y e = cc
place_of-push (z ∷ xs) x zero y e = inl e
place_of-push (z ∷ xs) x (suc i) y e = grind (arith, place_of-push xs x i y e)

-- an element of a list of which one was replaced is that one, or another, which is as it was
pub place_of-set : {X : Type 0} (xs : List X) (p : ℕ) (x : X) (i : ℕ) (y : X)
    → slice_get (slice_set xs p x) i ≡ Some y
    → ((i ≡ p) × (y ≡ x)) ⊎ ((i ≡ p → ⊥) × (slice_get xs i ≡ Some y))
place_of-set [] p x i y e = cc
place_of-set (z ∷ xs) zero x zero y e = inl (refl, cc)
place_of-set (z ∷ xs) zero x (suc i) y e = inr (λ (h : suc i ≡ zero). omega arith, e)
place_of-set (z ∷ xs) (suc p) x zero y e = inr (λ (h : zero ≡ suc p). omega arith, e)
place_of-set (z ∷ xs) (suc p) x (suc i) y e = grind (arith, place_of-set xs p x i y e)

-- a function has the same values on the list, where it has the same value on the element that was replaced
pub map-set : {X Y : Type 0} (f : X → Y) (xs : List X) (p : ℕ) (x y : X)
    → slice_get xs p ≡ Some y → f x ≡ f y → map f (slice_set xs p x) ≡ map f xs
map-set f xs p x y at same =
    map-set_same f xs p x y (same ∙ ap f (sym (get_or_from_slice_get xs p y y at)))
