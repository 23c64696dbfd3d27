-- The nights found of a want determine whether it fits, and the places of a cell those that are held. For steps and loads.
use Rattle.std.proofs.Common.{◌≡◌, ℕ, ◌+◌, ◌-◌, ◌<◌, ◌≤◌, ◌==◌, List, [], ◌∷◌, map, Bool, true, false, Option, Some, None, refl, sym, ap, ◌∙◌, arith, eqb-true, eq-eqb, option_map, nat_le, ◌&&◌, unwrap_or, rules}
use Rattle.std.specs.List.{list_any, list_all}
use Rattle.std.proofs.lemmas.Bool.{and_parts, and_from, leb-true, le-leb}
use Rattle.sqlite_rules.specs.Lists.{Has}
use Rattle.sqlite_rules.proofs.ListLemmas.{some_has, some_from}
use Rattle.allotment.specs.Want.{Wanted}
use Rattle.allotment.specs.Cells.{cell_at, numbers_from}
use Rattle.allotment.specs.Places as allotted
use Rattle.allotment.specs.declared.cells.Cell.{Cell}
use Rattle.allotment.specs.declared.places.Held.{Held}
use Rattle.ledger.specs.Ledger.{Event, held, allotment, has_free, fits, IsLegal}
use Rattle.ledger.proofs.PlacesMoved.{held_within, held_none}
use Rattle.saga_core.specs.Views.{Places, places_of, places_shown, night_said}
use Rattle.sql_model.proofs.NextItems.{any-map}
use Rattle.sql_model.proofs.StockRows.{shown_has, has_shown}
use Rattle.sql_model.proofs.Numbering.{numbers_within}
use Rattle.sql_model.proofs.Wants.{same_test}

module _ (l : List Event) (legal : IsLegal l) where
  -- the places shown of a cell with an allotment
  shown : (x : Cell) (p : Places) → places_of l x ≡ Some p
      → (allotment l x ≡ Some p.allot) × (p.free ≡ p.allot - held l x)
  shown x p e = search (rules, arith)

  -- of a cell, all places that are not free are held
  pub held_told : (x : Cell) (p : Places) → places_of l x ≡ Some p → p.allot - p.free ≡ held l x
  held_told x p e = search (rules, arith, shown, held_within)

  -- of a cell that is not shown, no place is held
  pub held_untold : (x : Cell) → places_of l x ≡ None → held l x ≡ 0
  held_untold x e = search (rules, arith, held_none)

  module _ (w : Wanted) where
    -- a night has so many free places
    abbrev is_free_night : ℕ → ℕ × Places → Bool
    is_free_night n p = (p.0 == n) && nat_le w.count p.1.free

    -- a night of a want is shown with the want's count of free places exactly if its cell has them
    night_free : (n : ℕ) → w.first ≤ n → n < w.first + w.nights
        → list_any (is_free_night n) (places_shown l w) ≡ has_free l w.count (cell_at w n)
    night_free n low high =
        same_test (list_any (is_free_night n) (places_shown l w)) (has_free l w.count (cell_at w n)) forth
        (λ e. back (allotment l (cell_at w n)) refl e)
      where
        forth : list_any (is_free_night n) (places_shown l w) ≡ true
            → has_free l w.count (cell_at w n) ≡ true
        forth some = search (rules, arith, some_has, and_parts, shown_has, eqb-true, shown, held_within, leb-true, le-leb)

        back : (o : Option ℕ) → allotment l (cell_at w n) ≡ o
            → unwrap_or (option_map (λ places. nat_le (held l (cell_at w n) + w.count) places) o) false ≡ true
            → list_any (is_free_night n) (places_shown l w) ≡ true
        back None f e = cc
        back (Some m) f e =
            let enough = leb-true (held l (cell_at w n) + w.count) m e in
            let free : w.count ≤ m - held l (cell_at w n) = omega arith in
            some_from (is_free_night n) (places_shown l w)
            (n, record { allot = m; free = m - held l (cell_at w n) })
            (has_shown l w w.first w.nights (n, record { allot = m; free = m - held l (cell_at w n) }) low high
            (ap (option_map (λ (k : ℕ). record { allot = k; free = k - held l (cell_at w n) })) f))
            (and_from (n == n) (nat_le w.count (m - held l (cell_at w n))) (eq-eqb n n refl)
            (le-leb w.count (m - held l (cell_at w n)) free))

    -- tests that agree on numbers pass all of them alike
    all_alike : (p : ℕ → Bool) (q : Cell → Bool) (ns : List ℕ) → ((n : ℕ) → Has ns n → p n ≡ q (cell_at w n))
        → list_all p ns ≡ list_all q (map (cell_at w) ns)
    all_alike p q [] same = refl
    all_alike p q (n ∷ ns) same = search (rules, arith, all_alike p q ns)

    -- the want fits the listed nights exactly if it fits the ledger
    pub fits_told : (cells : List (ℕ × Held)) → map night_said cells ≡ places_shown l w
        → allotted.fits_in cells w ≡ fits l (Some w)
    fits_told cells shows =
        all_alike (allotted.has_free cells w.count) (has_free l w.count) (numbers_from w.first w.nights)
        (λ n h.
        let bounds = numbers_within w.first w.nights n h in
        sym (any-map night_said (is_free_night n) cells)
        ∙ ap (list_any (is_free_night n)) shows ∙ night_free n bounds.0 bounds.1)
