-- What the answer of a test implies, and what is kept where a test passes.
use Rattle.std.proofs.Common.{◌≡◌, ℕ, Bool, true, false, ◌&&◌, List, [], ◌∷◌, refl, arith, Some, None, bytes_eq}
use Rattle.std.specs.List.{list_all}
use Rattle.std.proofs.lemmas.Slice.Eq.{bytes_eq-Decides}
use Rattle.allotment.specs.Texts.{keep_if}

-- if a conjunction holds, both tests hold
pub and_both : (a b : Bool) → (a && b) ≡ true → (a ≡ true) × (b ≡ true)
and_both true b e = (refl, e)
and_both false b e = cc

-- if both tests hold, their conjunction holds
pub and_make : (a b : Bool) → a ≡ true → b ≡ true → (a && b) ≡ true
and_make a b p q = cc

-- a value that passes is kept
pub keep_if_yes : {X : Type 0} (test : X → Bool) (x : X) → test x ≡ true → keep_if test x ≡ Some x
keep_if_yes test x t = grind arith

-- a value that does not pass is not kept
pub keep_if_no : {X : Type 0} (test : X → Bool) (x : X) → test x ≡ false → keep_if test x ≡ None
keep_if_no test x t = grind arith

-- what is kept is the value, and it passes
pub keep_if_some : {X : Type 0} (test : X → Bool) (y x : X) → keep_if test y ≡ Some x → (y ≡ x) × (test x ≡ true)
keep_if_some test y x e = grind arith

-- where nothing is kept, the value does not pass
pub keep_if_none : {X : Type 0} (test : X → Bool) (x : X) → keep_if test x ≡ None → test x ≡ false
keep_if_none test x e = grind arith

-- a test fails if a test that it implies fails
pub fails_too : (a b : Bool) → (a ≡ true → b ≡ true) → b ≡ false → a ≡ false
fails_too a b h e = grind arith

-- where each element that passes one test passes another, so does a list
pub list_all_weaker : {X : Type 0} (p q : X → Bool) → ((x : X) → p x ≡ true → q x ≡ true) → (xs : List X)
    → list_all p xs ≡ true → list_all q xs ≡ true
list_all_weaker p q weaker [] e = refl
list_all_weaker p q weaker (x ∷ xs) e =
    let both = and_both (p x) (list_all p xs) e in
    and_make (q x) (list_all q xs) (weaker x both.0) (list_all_weaker p q weaker xs both.1)

-- texts whose bytes compare as equal are equal
pub same_bytes : (xs ys : List ℕ) → bytes_eq xs ys ≡ true → xs ≡ ys
same_bytes xs ys e = (bytes_eq-Decides xs ys).0 e

-- a text compares as equal to itself
pub bytes_eq_self : (xs : List ℕ) → bytes_eq xs xs ≡ true
bytes_eq_self xs = (bytes_eq-Decides xs xs).1 refl
