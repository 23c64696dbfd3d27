-- The first element that passes a test, and lists without two elements that are the same. For Orders and Answering.
use Rattle.std.proofs.Common.{◌≡◌, List, [], ◌∷◌, ◌++◌, Bool, true, false, cond, Some, None, find, refl, ap, arith, rules}
use Rattle.std.specs.List.{AllByRecursion}
use Rattle.sqlite_trees.proofs.ListLemmas.{ascending-append, all_weaker}
use Rattle.sqlite_rules.specs.Lists.{Has}
use Rattle.sqlite_rules.proofs.ListLemmas.{all_has}
use Rattle.sql_model.specs.Standing.{AreApart}

-- if nothing was found, the search goes on in the suffix
pub find-back : {X : Type 0} (test : X → Bool) (xs ys : List X) → find test xs ≡ None
    → find test (xs ++ ys) ≡ find test ys
find-back test [] ys e = refl
find-back test (z ∷ xs) ys e = search (rules, arith, find-back test xs)

-- an appended element that does not pass is not found
pub find-last_fails : {X : Type 0} (test : X → Bool) (xs : List X) (y : X) → test y ≡ false
    → find test (xs ++ y ∷ []) ≡ find test xs
find-last_fails test [] y fails = ap (λ v. cond v (Some y) None) fails
find-last_fails test (z ∷ xs) y fails = search (rules, arith, find-last_fails test xs y fails)

-- if nothing is found, no element passes
pub find-none : {X : Type 0} (test : X → Bool) (xs : List X) → find test xs ≡ None
    → AllByRecursion (λ x. test x ≡ false) xs
find-none test [] e = tt
find-none test (z ∷ xs) e = search (rules, arith, find-none test xs)

-- so an element that passes is none of them
pub none_passes : {X : Type 0} (test : X → Bool) (xs : List X) (x : X) → find test xs ≡ None → Has xs x → test x ≡ true → ⊥
none_passes test xs x e h on = let off = all_has _ xs x (find-none test xs e) h in cc

-- an appended element that is the same as none of them
pub apart-last : {X : Type 0} (same : X → X → Bool) (xs : List X) (y : X) → AreApart same xs
    → AllByRecursion (λ x. same x y ≡ false) xs → AreApart same (xs ++ y ∷ [])
apart-last same xs y apart others = search (rules, arith, ascending-append, all_weaker)
