-- Whether a want fits, by what is free of its nights, and what is free of them by the places that a book shows. For the preview.
use Rattle.std.proofs.Common.{◌≡◌, ℕ, zero, suc, ◌+◌, ◌<◌, ◌≤◌, ◌==◌, Bool, List, [], ◌∷◌, filter_map, find, map, refl, ap, ap₂, ◌∙◌, arith, eqb-true, true, false, Option, Some, None, option_map}
use Rattle.std.proofs.lemmas.Bool.{eqb-false, false_from_ne_true}
use Rattle.std.proofs.lemmas.List.Folds.{list_all-map}
use Rattle.std.specs.List.{cons_option, list_all}
use Rattle.allotment.specs.Cells.{cell_at, cells_of, numbers_from}
use Rattle.allotment.specs.Want.{Wanted}
use Rattle.allotment.specs.declared.cells.Cell.{Cell}
use Rattle.allotment.specs.declared.places.Held.{Held}
use Rattle.ledger.specs.Ledger.{Event, has_free, fits, IsLegal}
use Rattle.ledger.proofs.Free.{has_free-by_held, fits-by_test}
use Rattle.saga_core.specs.Views.{Places, at_night, night_said, places_of, places_shown}
use Rattle.previews.specs.Nights.{has_room, night_among, night_with, nights_among, nights_of}
use Rattle.previews.specs.declared.nights.FreeNight.{FreeNight}

-- a night has as many free places as its cell has in the ledger
room-free : (l : List Event) (count : ℕ) (x : Cell) → IsLegal l
    → has_room count (night_with x (places_of l x)) ≡ has_free l count x
room-free l count x legal = grind (arith, has_free-by_held)

-- a want fits if each of its nights has its count of free places
pub fits_by_nights : (l : List Event) (w : Wanted) (nights : List FreeNight) → IsLegal l → nights ≡ nights_of l w
    → list_all (has_room w.count) nights ≡ fits l (Some w)
fits_by_nights l w nights legal is =
    ap (list_all (has_room w.count)) is
    ∙ list_all-map (has_room w.count) (λ x. night_with x (places_of l x)) (cells_of w)
    ∙ fits-by_test l w (λ x. has_room w.count (night_with x (places_of l x))) (λ x. room-free l w.count x legal)

-- By the places that a book shows.

-- the places that a list of nights has of a night
abbrev at_of : ℕ → List (ℕ × Places) → Option (ℕ × Places)
at_of n nights = find (λ (p : ℕ × Places). p.0 == n) nights

abbrev free_at : ℕ → List (ℕ × Places) → Option ℕ
free_at n nights = option_map (λ (p : ℕ × Places). p.1.free) (at_of n nights)

-- what is free of a night is the same by what a book says of its places
free_said : (n : ℕ) (places : List (ℕ × Held))
    → option_map (λ (p : ℕ × Held). p.1.free) (find (λ (p : ℕ × Held). p.0 == n) places) ≡ free_at n (map night_said places)
free_said n [] = refl
free_said n (p ∷ later) = go (p.0 == n) refl (free_said n later)
  where
    go : (b : Bool) → (p.0 == n) ≡ b
        → option_map (λ (q : ℕ × Held). q.1.free) (find (λ (q : ℕ × Held). q.0 == n) later) ≡ free_at n (map night_said later)
        → option_map (λ (q : ℕ × Held). q.1.free) (find (λ (q : ℕ × Held). q.0 == n) (p ∷ later)) ≡ free_at n (map night_said (p ∷ later))
    go b e rest = grind arith

module _ (l : List Event) (w : Wanted) where
  -- the places of so many consecutive nights of the want
  abbrev shown : ℕ → ℕ → List (ℕ × Places)
  shown first count =
      filter_map (λ x. option_map (at_night x) (places_of l x)) (map (cell_at w) (numbers_from first count))

  abbrev with_first : ℕ → ℕ → Option Places → List (ℕ × Places)
  with_first first more o = cons_option (option_map (at_night (cell_at w first)) o) (shown (suc first) more)

  -- a night before the first is not among them
  none_before : (first count n : ℕ) → n < first → at_of n (shown first count) ≡ None
  none_before first zero n before = refl
  none_before first (suc more) n before = grind (arith, false_from_ne_true, eqb-true, none_before (suc first) more n (omega (arith, before)))

  -- a night that is among them has its places
  each_shown : (first count n : ℕ) → first ≤ n → n < first + count
      → free_at n (shown first count) ≡ option_map (λ (p : Places). p.free) (places_of l (cell_at w n))
  each_shown first zero n low high = absurd (omega (arith, low, high))
  each_shown first (suc more) n low high =
      go (first == n) refl (λ past. each_shown (suc first) more n past (omega (arith, high)))
    where
      here : (o : Option Places) → (n == n) ≡ true → at_of n (shown (suc n) more) ≡ None
          → free_at n (with_first n more o) ≡ option_map (λ (p : Places). p.free) o
      here o is none = grind arith

      later : (o : Option Places) → (first == n) ≡ false
          → free_at n (shown (suc first) more) ≡ option_map (λ (p : Places). p.free) (places_of l (cell_at w n))
          → free_at n (with_first first more o) ≡ option_map (λ (p : Places). p.free) (places_of l (cell_at w n))
      later o other rest = grind arith

      go : (b : Bool) → (first == n) ≡ b
          → (suc first ≤ n → free_at n (shown (suc first) more) ≡ option_map (λ (p : Places). p.free) (places_of l (cell_at w n)))
          → free_at n (shown first (suc more)) ≡ option_map (λ (p : Places). p.free) (places_of l (cell_at w n))
      go b e rest = grind (arith, eqb-true, here, none_before, eqb-false, later, rest)

  -- nights within those of the want have what is free of them in the ledger
  all_shown : (places : List (ℕ × Held)) → map night_said places ≡ places_shown l w → (first count : ℕ)
      → w.first ≤ first → first + count ≤ w.first + w.nights
      → map (λ (x : Cell). night_among places x.night) (map (cell_at w) (numbers_from first count))
      ≡ map (λ x. night_with x (places_of l x)) (map (cell_at w) (numbers_from first count))
  all_shown places shows first zero low high = refl
  all_shown places shows first (suc more) low high =
      ap₂ (λ (n : FreeNight) (ns : List FreeNight). n ∷ ns)
      (ap (λ (o : Option ℕ). record { night = first; free = o })
      (free_said first places ∙ ap (free_at first) shows ∙ each_shown w.first w.nights first low (omega (arith, high))))
      (all_shown places shows (suc first) more (omega (arith, low)) (omega (arith, high)))

  -- so have all nights of the want
  pub nights_by_shown : (places : List (ℕ × Held)) → map night_said places ≡ places_shown l w
      → nights_among places w ≡ nights_of l w
  nights_by_shown places shows = all_shown places shows w.first w.nights (omega arith) (omega arith)
