-- Consecutive numbers: how such lists join, the runs up and down of words, and sums over them. For the words of journeys,
-- and for the places that journeys hold.
use Rattle.std.proofs.Common.{[], ◌≡◌, ℕ, zero, suc, ◌+◌, ◌-◌, ◌≤◌, ◌∷◌, ◌++◌, ap, ◌∙◌, arith, List, map, reverse, refl, ◌<◌, Bool, filter, sum_by}
use Rattle.allotment.specs.Cells.{numbers_from}
use Rattle.std.proofs.lemmas.List.{reverse-append, map-append}
use Rattle.commands.specs.declared.items.Item.{Item}
use Rattle.commands.specs.declared.items.Item.TheVariants.{Transaction, Compensation}
use Rattle.ledger.specs.Word.{Up, Down, word, up, down, Letter}
use Rattle.std.proofs.lemmas.Bool.{cases_eq}
use Rattle.std.proofs.lemmas.Grind.{common_steps}
use Rattle.std.proofs.lemmas.List.Sums.{sum_by-cons}

-- n + m consecutive numbers are the first n of them, followed by m more
pub numbers_from-append : (first n m : ℕ)
    → numbers_from first (n + m) ≡ numbers_from first n ++ numbers_from (first + n) m
numbers_from-append first zero m = grind arith
numbers_from-append first (suc n) m =
    let e : suc n + m ≡ suc (n + m) = omega arith in let f : first + suc n ≡ suc first + n = omega arith in
    rw (e, f) (ap (λ xs. first ∷ xs) (numbers_from-append (suc first) n m))

-- the numbers from a + 1 to d are those up to b, followed by those after b
pub numbers_between-join : (a b d : ℕ) → a ≤ b → b ≤ d
    → numbers_from (suc a) (d - a) ≡ numbers_from (suc a) (b - a) ++ numbers_from (suc b) (d - b)
numbers_between-join a b d low high = grind (arith, numbers_from-append (suc a) (b - a) (d - b))

-- the word of two histories, one after the other, is the word of the first followed by that of the second
pub word-append : (g h : List Item) → word (g ++ h) ≡ word g ++ word h
word-append [] h = refl
word-append (Transaction i c ∷ g) h = ap (λ w. Up i ∷ w) (word-append g h)
word-append (Compensation i c ∷ g) h = ap (λ w. Down i ∷ w) (word-append g h)
word-append (_ ∷ g) h = word-append g h

-- Runs of no step, of one step, and of steps that join.

-- from a up to a no step is done
pub up-none : (a : ℕ) → up a a ≡ []
up-none a = grind arith

-- from a down to a no step is compensated
pub down-none : (a : ℕ) → down a a ≡ []
down-none a = grind arith

-- one step up
pub up-one : (a : ℕ) → up a (suc a) ≡ Up (suc a) ∷ []
up-one a = grind arith

-- one step down
pub down-one : (a : ℕ) → down (suc a) a ≡ Down (suc a) ∷ []
down-one a = grind arith

-- up to b and on up to d is up to d
pub up-join : (a b d : ℕ) → a ≤ b → b ≤ d → up a d ≡ up a b ++ up b d
up-join a b d low high =
    grind (arith, numbers_between-join a b d low, map-append Up (numbers_from (suc a) (b - a)) (numbers_from (suc b) (d - b)))

-- down to b and on down to a is down to a
pub down-join : (a b d : ℕ) → a ≤ b → b ≤ d → down d a ≡ down d b ++ down b a
down-join a b d low high = rw (numbers_between-join a b d low high) (simp (reverse-append, map-append))

-- Items that read as a run.

-- the transactions of the steps from a + 1 to b
pub rise : ℕ → ℕ → List Item
rise a b = map (λ i. Transaction i 1) (numbers_from (suc a) (b - a))

-- the compensations of the steps from b down to a + 1
pub fall : ℕ → ℕ → List Item
fall b a = map (λ i. Compensation i 1) (reverse (numbers_from (suc a) (b - a)))

-- items that each read as one letter read as these letters
word-each : (item : ℕ → Item) (letter : ℕ → Letter) → ((n : ℕ) (h : List Item) → word (item n ∷ h) ≡ letter n ∷ word h)
    → (ns : List ℕ) → word (map item ns) ≡ map letter ns
word-each item letter each [] = refl
word-each item letter each (n ∷ ns) = each n (map item ns) ∙ ap (λ w. letter n ∷ w) (word-each item letter each ns)

-- these transactions read as a run up
pub word-rise : (a b : ℕ) → word (rise a b) ≡ up a b
unfolding rise
word-rise a b = word-each (λ i. Transaction i 1) Up (λ n h. refl) (numbers_from (suc a) (b - a))

-- these compensations read as a run down
pub word-fall : (b a : ℕ) → word (fall b a) ≡ down b a
unfolding fall
word-fall b a = word-each (λ i. Compensation i 1) Down (λ n h. refl) (reverse (numbers_from (suc a) (b - a)))

-- Sums.

-- where each term is the same, so is the sum
pub sum_by-same : {X : Type 0} (f g : X → ℕ) (xs : List X) → ((x : X) → f x ≡ g x)
    → sum_by f xs ≡ sum_by g xs
sum_by-same f g xs same = grind (arith, common_steps)

-- a filtered list sums to no more than the list
pub sum_by-filter : {X : Type 0} (f : X → ℕ) (test : X → Bool) (xs : List X)
    → sum_by f (filter test xs) ≤ sum_by f xs
sum_by-filter f test [] = omega arith
sum_by-filter f test (x ∷ xs) = let rest = sum_by-filter f test xs in grind (arith, sum_by-cons)

-- after the only number where terms differ, sums are the same
sum_by-behind : (f g : ℕ → ℕ) (k first n : ℕ) → ((j : ℕ) → (j ≡ k → ⊥) → g j ≡ f j) → k < first
    → sum_by g (numbers_from first n) ≡ sum_by f (numbers_from first n)
sum_by-behind f g k first zero same behind = refl
sum_by-behind f g k first (suc n) same behind = grind (arith, sum_by-cons, sum_by-behind f g k (suc first) n same (omega arith))

-- if terms differ at one number only, the sums differ as these terms do
pub sum_by-changed : (f g : ℕ → ℕ) (k first n : ℕ) → ((j : ℕ) → (j ≡ k → ⊥) → g j ≡ f j)
    → first ≤ k → k < first + n
    → sum_by g (numbers_from first n) + f k ≡ sum_by f (numbers_from first n) + g k
sum_by-changed f g k first zero same low high = absurd (omega arith)
sum_by-changed f g k first (suc n) same low high =
    let later = sum_by-changed f g k (suc first) n same in let past = sum_by-behind f g k (suc first) n same in
    grind (arith, sum_by-cons, cases_eq first k, same first)
