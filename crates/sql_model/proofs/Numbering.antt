-- The elements of a list with their numbers, and what is made of them. For the lemmas on numbered rows.
use Rattle.std.proofs.Common.{◌≡◌, ◌≢◌, ◌≤◌, Bool, eqb-true, inl, inr, ℕ, zero, suc, ◌+◌, ◌<◌, ◌==◌, List, [], ◌∷◌, ◌++◌, length, map, filter, filter_map, flat_map, true, Option, Some, None, refl, ap, arith, eq-eqb, append-nil, slice_get, option_map, rules}
use Rattle.std.specs.List.{AllByRecursion, list_all}
use Rattle.std.proofs.lemmas.Bool.{eqb-false}
use Rattle.std.proofs.lemmas.Bool.Decides.{nat_tests}
use Rattle.std.proofs.lemmas.Grind.{flat_map-append}
use Rattle.std.proofs.lemmas.List.{map-append}
use Rattle.std.proofs.lemmas.List.Elements.{filter-append}
use Rattle.sqlite_trees.proofs.ListLemmas.{all_weaker, filter_all, filter_none}
use Rattle.sqlite_trees.specs.Tree.{IsAscending}
use Rattle.sqlite_rules.specs.Lists.{Has}
use Rattle.sqlite_rules.proofs.ListLemmas.{all_has, all_from, has_left, has_right, has_either, test_has, has_got}
use Rattle.allotment.specs.Cells.{numbers_from}
use Rattle.plan.specs.PlanModel.{numbered}
use Rattle.sql_model.specs.ExpectedRows.{counted_from}
use Rattle.sql_model.proofs.Orders.{Rises}

-- What is made of the elements of a list.

-- an element of one of the lists is in their concatenation
pub has_flat_map : {X Y : Type 0} (f : X → List Y) (xs : List X) (x : X) (y : Y) → Has xs x → Has (f x) y
    → Has (flat_map f xs) y
has_flat_map f [] x y h k = absurd h
has_flat_map f (z ∷ xs) x y h k = search (rules, arith, has_left, has_right, has_flat_map f xs x y)

-- an element of the concatenation is in one of the lists
pub flat_map_has : {X Y : Type 0} (f : X → List Y) (xs : List X) (y : Y) → Has (flat_map f xs) y
    → (x : X) × Has xs x × Has (f x) y
flat_map_has f [] y h = absurd h
flat_map_has f (z ∷ xs) y h = search (rules, arith, has_either, flat_map_has f xs y)

module _ {X Y : Type 0} (f : X → Option Y) where
  -- each element that a function makes is made of an element
  pub has_chosen : (xs : List X) (y : Y) → Has (filter_map f xs) y → (x : X) × Has xs x × (f x ≡ Some y)
  has_chosen [] y h = absurd h
  has_chosen (x ∷ xs) y h = search (rules, arith, has_chosen xs y)

  -- each element of which one is made has its own
  pub chosen_has : (xs : List X) (x : X) (y : Y) → Has xs x → f x ≡ Some y → Has (filter_map f xs) y
  chosen_has [] x y h e = absurd h
  chosen_has (z ∷ xs) x y h e = search (rules, arith, chosen_has xs x y)

  -- they keep an order of the elements
  pub ascending-chosen : (R : Y → Y → Type 0) (S : X → X → Type 0)
      → ((a b : X) (p q : Y) → S a b → f a ≡ Some p → f b ≡ Some q → R p q)
      → (xs : List X) → IsAscending S xs → IsAscending R (filter_map f xs)
  ascending-chosen R S follows [] up = tt
  ascending-chosen R S follows (x ∷ xs) up =
      search (rules, arith, all_from, has_chosen, all_has, follows, ascending-chosen R S follows xs)

-- Places.

-- an element at a place is below the length
pub there_low : {X : Type 0} (xs : List X) (i : ℕ) (x : X) → slice_get xs i ≡ Some x → i < length xs
there_low [] i x e = cc
there_low (y ∷ xs) zero x e = omega arith
there_low (y ∷ xs) (suc i) x e = let low = there_low xs i x e in omega arith

-- the element of a mapped list at a place
pub slice_get-map : {X Y : Type 0} (f : X → Y) (xs : List X) (i : ℕ)
    → slice_get (map f xs) i ≡ option_map f (slice_get xs i)
slice_get-map f (x ∷ xs) (suc i) = slice_get-map f xs i
slice_get-map f xs i = refl

-- there is an element at each place below the length
pub there_is : {X : Type 0} (xs : List X) (i : ℕ) → i < length xs → (x : X) × (slice_get xs i ≡ Some x)
there_is [] i low = absurd (omega arith)
there_is (x ∷ xs) zero low = (x, refl)
there_is (x ∷ xs) (suc i) low = there_is xs i (omega arith)

-- two lists with the same element at each place are equal
pub same_places : {X : Type 0} (xs ys : List X) → ((i : ℕ) → slice_get xs i ≡ slice_get ys i) → xs ≡ ys
same_places [] [] same = refl
same_places (x ∷ xs) (y ∷ ys) same = cc (same 0, same_places xs ys (λ i. same (suc i)))
same_places _ _ same = cc (same 0)

-- if each element passes, the one with a number passes
pub numbered-passes : {X : Type 0} (p : X → Bool) (xs : List X) (n : ℕ) (x : X) → numbered xs n ≡ Some x
    → list_all p xs ≡ true → p x ≡ true
numbered-passes p xs zero x e all = cc
numbered-passes p xs (suc i) x e all = test_has p xs x all (has_got xs i x e)

-- Elements with their numbers.

-- an appended element has the next number
pub counted_from-last : {X : Type 0} (n : ℕ) (xs : List X) (x : X)
    → counted_from n (xs ++ x ∷ []) ≡ counted_from n xs ++ (n + length xs, x) ∷ []
counted_from-last n [] x = ap (λ k. (k, x) ∷ []) (omega arith)
counted_from-last n (y ∷ xs) x = search (rules, arith, counted_from-last (suc n) xs x)

-- so its image is appended
pub map_counted-last : {X Y : Type 0} (f : ℕ × X → Y) (xs : List X) (x : X) (n : ℕ) → n ≡ 1 + length xs
    → map f (counted_from 1 (xs ++ x ∷ [])) ≡ map f (counted_from 1 xs) ++ f (n, x) ∷ []
map_counted-last f xs x n e = search (rules, arith, counted_from-last, map-append)

-- and so is its list
pub flat_map_counted-last : {X Y : Type 0} (f : ℕ × X → List Y) (xs : List X) (x : X) (n : ℕ) → n ≡ 1 + length xs
    → flat_map f (counted_from 1 (xs ++ x ∷ [])) ≡ flat_map f (counted_from 1 xs) ++ f (n, x)
flat_map_counted-last f xs x n e = search (rules, arith, counted_from-last, flat_map-append, append-nil)

-- an element with its number, at the place that is that far after the first
pub record StandsAt {X : Type 0} (n : ℕ) (xs : List X) (p : ℕ × X) : Type 0 where
  pub place : ℕ
  pub number : p.0 ≡ n + place
  pub there : slice_get xs place ≡ Some p.1

-- an element with its number is at the place that the number gives
pub counted_stands : {X : Type 0} (n : ℕ) (xs : List X) (p : ℕ × X) → Has (counted_from n xs) p
    → StandsAt n xs p
counted_stands n [] p h = absurd h
counted_stands n (x ∷ xs) p (inl e) = record { place = 0; number = (rw e (omega arith)); there = (rw e refl) }
counted_stands n (x ∷ xs) p (inr later) =
    let s = counted_stands (suc n) xs p later in
    record { place = suc s.place; number = (let e = s.number in omega arith); there = s.there }

-- the element at a place has the number of that place
pub counted_has : {X : Type 0} (n : ℕ) (xs : List X) (i : ℕ) (x : X) → slice_get xs i ≡ Some x
    → Has (counted_from n xs) (n + i, x)
counted_has n [] i x e = cc
counted_has {X} n (y ∷ xs) zero x e = search (rules, arith)
counted_has {X} n (y ∷ xs) (suc i) x e = search (rules, arith, counted_has (suc n) xs i x)

-- counted from 1, an element with its number is the one with that number
pub counted_numbered : {X : Type 0} (xs : List X) (p : ℕ × X) → Has (counted_from 1 xs) p → numbered xs p.0 ≡ Some p.1
counted_numbered xs p h = search (rules, arith, counted_stands)

-- and the one with a number has it
pub numbered_counted : {X : Type 0} (xs : List X) (n : ℕ) (x : X) → numbered xs n ≡ Some x → Has (counted_from 1 xs) (n, x)
numbered_counted xs zero x e = cc
numbered_counted xs (suc i) x e = let n : 1 + i ≡ suc i = omega arith in rw n at (counted_has 1 xs i x e)

-- the numbers rise
pub counted_rises : {X : Type 0} (n : ℕ) (xs : List X)
    → Rises (λ (p : ℕ × X). p.0) (counted_from n xs)
counted_rises n [] = tt
counted_rises {X} n (x ∷ xs) = (
  all_from _ (counted_from (suc n) xs)
      (λ p h. let at = (counted_stands (suc n) xs p h).number in omega arith),
  counted_rises (suc n) xs,
)

-- consecutive numbers are between the first and the last
pub numbers_within : (first count n : ℕ) → Has (numbers_from first count) n → (first ≤ n) × (n < first + count)
numbers_within first zero n h = absurd h
numbers_within first (suc k) n (inl e) = (omega arith, omega arith)
numbers_within first (suc k) n (inr h) = search (rules, arith, numbers_within (suc first) k n h)

-- each number between the first and the last is one of the consecutive numbers
pub within_numbers : (first count n : ℕ) → first ≤ n → n < first + count → Has (numbers_from first count) n
within_numbers first zero n low high = absurd (omega arith)
within_numbers first (suc k) n low high = search (rules, arith, eqb-true, eqb-false, within_numbers (suc first) k n)

-- consecutive numbers rise
pub numbers_rise : (first count : ℕ) → IsAscending (λ m n. m < n) (numbers_from first count)
numbers_rise first zero = tt
numbers_rise first (suc k) = search (rules, arith, all_from, numbers_within, numbers_rise (suc first) k)

-- Rows of the elements of a list, each of which has the number of its element.
module _ {X R : Type 0} (key : R → ℕ) (rows : ℕ → X → List R)
    (own : (n : ℕ) (x : X) → AllByRecursion (λ r. key r ≡ n) (rows n x)) where
  -- the rows of all elements, numbered from n
  abbrev grouped : ℕ → List X → List R
  grouped n xs = flat_map (λ (p : ℕ × X). rows p.0 p.1) (counted_from n xs)

  -- the rows of an element, if there is one
  abbrev pub rows_if : ℕ → Option X → List R
  rows_if n None = []
  rows_if n (Some x) = rows n x

  -- the rows of an element pass the test of its number
  same : (n : ℕ) (x : X) → filter (λ r. key r == n) (rows n x) ≡ rows n x
  same n x = search (rules, arith, filter_all, all_weaker, own, eq-eqb)

  -- and no other test
  other : (n k : ℕ) (x : X) → n ≢ k → filter (λ r. key r == k) (rows n x) ≡ []
  other n k x off = search (rules, arith, filter_none, all_weaker, nat_tests)

  past : (n k : ℕ) (xs : List X) → k < n → filter (λ r. key r == k) (grouped n xs) ≡ []
  past n k [] above = refl
  past n k (x ∷ xs) above = search (rules, arith, filter-append, other, past (suc n) k xs)

  -- of all rows, those with a number are those of its element
  from : (n i k : ℕ) (xs : List X) → n + i ≡ k → filter (λ r. key r == k) (grouped n xs) ≡ rows_if k (slice_get xs i)
  from n i k [] e = refl
  from n zero k (x ∷ xs) e = search (rules, arith, filter-append, same, past, append-nil)
  from n (suc i) k (x ∷ xs) e = search (rules, arith, filter-append, other, from (suc n) i k xs)

  pub group_at : (k : ℕ) (xs : List X) → filter (λ r. key r == k) (grouped 1 xs) ≡ rows_if k (numbered xs k)
  group_at zero xs = past 1 0 xs (omega arith)
  group_at (suc i) xs = from 1 i (suc i) xs (omega arith)
