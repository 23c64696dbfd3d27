-- Journeys of a ledger, found one after another by rising number. For calls that walk over a book's journeys, whichever of
-- them they look for.
use Rattle.std.proofs.Common.{◌≡◌, refl, ℕ, zero, suc, ◌<◌, ◌≤◌, List, [], ◌∷◌, cond, length, Bool, true, Option, Some, None, arith, filter, filter_map, find, option_map, nat_lt, ◌&&◌, le-ltb, lt-ltb, ltb-true}
use Rattle.std.specs.List.{cons_option}
use Rattle.allotment.specs.Cells.{numbers_from}
use Rattle.ledger.specs.Ledger.{Event, Journey, journeys, journey_at, numbers, history}
use Rattle.saga_core.specs.Views.{brief_of, brief_of_journey}
use Rattle.saga_core.specs.declared.records.Brief.{Brief}

-- the numbers rise, from this one on
abbrev pub RisesFrom : ℕ → List Brief → Type 0
RisesFrom n [] = Unit {0}
RisesFrom n (b ∷ later) = (n ≤ b.id) × RisesFrom (suc b.id) later

rises_lower : (n k : ℕ) (bs : List Brief) → n ≤ k → RisesFrom k bs → RisesFrom n bs
rises_lower n k [] low rise = tt
rises_lower n k (b ∷ bs) low rise = (let e : n ≤ b.id = omega (arith, low, rise.0) in e, rise.1)

-- the numbers of a ledger's journeys rise
rises_from : (l : List Event) (n m : ℕ) → RisesFrom n (filter_map (brief_of l) (numbers_from n m))
rises_from l n zero = tt
rises_from l n (suc m) = go (journey_at l n) (rises_from l (suc n) m)
  where
    go : (found : Option Journey) → RisesFrom (suc n) (filter_map (brief_of l) (numbers_from (suc n) m))
        → RisesFrom n (cons_option (option_map (brief_of_journey n (history l n)) found) (filter_map (brief_of l) (numbers_from (suc n) m)))
    go found more = grind (arith, rises_lower)

-- the briefs of a ledger's journeys
abbrev pub briefs_of : List Event → List Brief
briefs_of l = filter_map (brief_of l) (numbers l)

pub rises : (l : List Event) → RisesFrom 1 (briefs_of l)
rises l = rises_from l 1 (length (journeys l))

-- a journey passes, and has a number above this one
abbrev pub above : (Brief → Bool) → ℕ → Brief → Bool
above passes a b = nat_lt a b.id && passes b

-- a journey that is found has a number in the range of all
found_from : (n : ℕ) (test : Brief → Bool) (bs : List Brief) (b : Brief) → RisesFrom n bs
    → find test bs ≡ Some b → n ≤ b.id
found_from n test [] b rise is = cc
found_from n test (x ∷ bs) b rise is = grind (arith, found_from (suc x.id) test bs b)

module _ (passes : Brief → Bool) where
  -- where all numbers are above this one, those above it that pass are all that pass
  pub all_above : (a : ℕ) (bs : List Brief) → RisesFrom (suc a) bs → filter (above passes a) bs ≡ filter passes bs
  all_above a [] rise = refl
  all_above a (b ∷ bs) rise = grind (arith, lt-ltb, rises_lower, all_above a bs)

  -- a journey above a number has a greater number
  above_is_greater : (a : ℕ) (b : Brief) → above passes a b ≡ true → a < b.id
  above_is_greater a b is = grind (arith, ltb-true)

  -- the first journey above a number comes before those above its own number
  pub first_above : (n a : ℕ) (bs : List Brief) (b : Brief) → RisesFrom n bs → find (above passes a) bs ≡ Some b
      → filter (above passes a) bs ≡ b ∷ filter (above passes b.id) bs
  first_above n a [] b rise is = cc
  first_above n a (x ∷ bs) b rise is =
      grind (arith, le-ltb, above_is_greater, all_above, rises_lower, found_from, first_above (suc x.id) a bs b)

-- where no journey is found, there is none
pub none_found : (test : Brief → Bool) (bs : List Brief) → find test bs ≡ None → filter test bs ≡ []
none_found test [] is = refl
none_found test (x ∷ bs) is = go (test x) is (none_found test bs)
  where
    go : (v : Bool) → cond v (Some x) (find test bs) ≡ None → (find test bs ≡ None → filter test bs ≡ [])
        → cond v (x ∷ filter test bs) (filter test bs) ≡ []
    go v same later = grind arith
