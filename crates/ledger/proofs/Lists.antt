-- Lists: their last element, the element of a number, and the first that passes a test. For
-- ledgers, allotments and answers.
use Rattle.std.proofs.Common.{reverse, sym, ◌∙◌, ◌≡◌, ℕ, zero, suc, ◌+◌, ◌<◌, ◌≤◌, ◌⊎◌, List, [], ◌∷◌, ◌++◌, length, map, refl, ap, arith, Bool, true, false, not, Some, None, find, position, slice_get, cond, ◌==◌, if◌then◌else◌}
use Rattle.std.proofs.lemmas.Bool.Decides.{nat_tests}
use Rattle.std.proofs.lemmas.Option.{slice_get_within, slice_get_past}
use Rattle.std.proofs.lemmas.List.{reverse-append, reverse-reverse}
use Rattle.std.specs.List.{list_any, list_all}
use Rattle.plan.specs.PlanModel.{numbered}
use Rattle.ledger.specs.History.{last_of}

-- The last element.

-- a list with a last element is a prefix and that element
pub last_of-is : {X : Type 0} (xs : List X) (t : X) → last_of xs ≡ Some t
    → (front : List X) × (xs ≡ front ++ t ∷ [])
last_of-is [] t e = cc
last_of-is (x ∷ []) t e = let is : x ≡ t = cc in ([], ap (λ y. y ∷ []) is)
last_of-is (x ∷ y ∷ ys) t e = (x ∷ (last_of-is (y ∷ ys) t e).0, ap (λ zs. x ∷ zs) (last_of-is (y ∷ ys) t e).1)

-- a list that is not empty has a last element
pub last_of-some : {X : Type 0} (xs : List X) → 0 < length xs → (t : X) × (last_of xs ≡ Some t)
last_of-some [] e = absurd (omega arith)
last_of-some (x ∷ []) e = (x, refl)
last_of-some (x ∷ y ∷ ys) e = last_of-some (y ∷ ys) (omega arith)

-- what comes before does not change the last element
pub last_of-append : {X : Type 0} (xs : List X) (y : X) (ys : List X)
    → last_of (xs ++ y ∷ ys) ≡ last_of (y ∷ ys)
last_of-append [] y ys = refl
last_of-append (x ∷ []) y ys = refl
last_of-append (x ∷ z ∷ zs) y ys = last_of-append (z ∷ zs) y ys

-- two lists with one more element at their ends are the same only if both parts are
pub snoc-same : {X : Type 0} (xs ys : List X) (a b : X) → xs ++ a ∷ [] ≡ ys ++ b ∷ [] → (xs ≡ ys) × (a ≡ b)
snoc-same xs ys a b e =
    let back : a ∷ reverse xs ≡ b ∷ reverse ys = sym (reverse-append xs (a ∷ [])) ∙ ap reverse e ∙ reverse-append ys (b ∷ []) in
    let fronts : reverse xs ≡ reverse ys = cc in
    (sym (reverse-reverse xs) ∙ ap reverse fronts ∙ reverse-reverse ys, cc)

-- The element with a number.

-- of a list with one more element at its end, counted from 0
pub slice_get-snoc : {X : Type 0} (xs : List X) (a : X) (i : ℕ)
    → slice_get (xs ++ a ∷ []) i ≡ (if i == length xs then Some a else slice_get xs i)
slice_get-snoc [] a zero = refl
slice_get-snoc [] a (suc i) = grind (arith, nat_tests)
slice_get-snoc (x ∷ xs) a zero = grind (arith, nat_tests)
slice_get-snoc (x ∷ xs) a (suc i) = let later = slice_get-snoc xs a i in grind (arith, nat_tests)

-- the same, counted from 1
pub numbered-more : {X : Type 0} (xs : List X) (a : X) (j : ℕ)
    → numbered (xs ++ a ∷ []) j ≡ (if j == suc (length xs) then Some a else numbered xs j)
numbered-more xs a j = grind (arith, slice_get-snoc, nat_tests)

-- so the element with a number was there, or is the appended one
pub numbered-snoc : {X : Type 0} (xs : List X) (a : X) (j : ℕ) (b : X)
    → numbered (xs ++ a ∷ []) j ≡ Some b
    → (numbered xs j ≡ Some b) ⊎ ((numbered xs j ≡ None) × (a ≡ b))
numbered-snoc xs a j b e = grind (arith, slice_get-snoc, slice_get_past, nat_tests)

-- numbers end where the list does
pub numbered-past : {X : Type 0} (xs : List X) → numbered xs (suc (length xs)) ≡ None
numbered-past [] = refl
numbered-past (x ∷ xs) = numbered-past xs

-- the number of an element is one from 1 to how many there are
pub number-within : {X : Type 0} (xs : List X) (j : ℕ) (a : X) → numbered xs j ≡ Some a → (1 ≤ j) × (j < 1 + length xs)
number-within xs j a at = grind (arith, slice_get_within)

-- Tests.

-- a list whose images are none is empty
pub map-none : {X Y : Type 0} (f : X → Y) (xs : List X) → map f xs ≡ [] → xs ≡ []
map-none f [] e = refl
map-none f (x ∷ xs) e = cc

-- where the first does not pass, the search goes on
pub find-next : {X : Type 0} (test : X → Bool) (x : X) (xs : List X) → test x ≡ false → find test (x ∷ xs) ≡ find test xs
find-next test x xs e = ap (λ b. cond b (Some x) (find test xs)) e

-- where the first passes, it is found
pub find-first : {X : Type 0} (test : X → Bool) (x : X) (xs : List X) → test x ≡ true → find test (x ∷ xs) ≡ Some x
find-first test x xs e = ap (λ b. cond b (Some x) (find test xs)) e

-- the first that passes passes
pub find-passes : {X : Type 0} (test : X → Bool) (xs : List X) (x : X)
    → find test xs ≡ Some x → test x ≡ true
find-passes test [] x e = cc
find-passes test (y ∷ ys) x e = let later = find-passes test ys x in grind arith

-- where no first element fails the test, all pass
pub position-none : {X : Type 0} (p : X → Bool) (xs : List X)
    → position (λ x. not (p x)) xs ≡ None → list_all p xs ≡ true
position-none p [] e = refl
position-none p (x ∷ xs) e = let later = position-none p xs in grind (arith, nat_tests)

-- where one element passes p and all pass q, one passes both
pub list_any-and_all : {X : Type 0} (p q : X → Bool) (xs : List X)
    → list_any p xs ≡ true → list_all q xs ≡ true → (x : X) × (p x ≡ true) × (q x ≡ true)
list_any-and_all p q [] some all = cc
list_any-and_all p q (x ∷ xs) some all = let later = list_any-and_all p q xs in grind arith
