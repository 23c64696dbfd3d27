-- The nights of a want by the cells that a filter lets through. For the report of why a journey goes on or does not.
use Rattle.std.proofs.Common.{◌≡◌, ℕ, zero, suc, ◌+◌, ◌-◌, ◌<◌, ◌≤◌, List, [], ◌∷◌, map, filter, find, refl, arith, eq-eqb, true, Bool, Some, rules, ap, sym, ◌∙◌, option_map}
use Rattle.std.proofs.lemmas.Bool.{and_from, and_parts, le-leb}
use Rattle.std.proofs.lemmas.List.Folds.{list_all-map}
use Rattle.std.proofs.lemmas.Slice.Eq.{bytes_eq-Decides}
use Rattle.std.specs.List.{list_all}
use Rattle.allotment.specs.Cells.{cells_of, numbers_from, is_cell}
use Rattle.allotment.specs.Limits.{is_night}
use Rattle.allotment.specs.Texts.{keep_if}
use Rattle.allotment.specs.Want.{Wanted}
use Rattle.allotment.specs.declared.cells.Cell.{Cell}
use Rattle.allotment.specs.declared.places.Held.{Held as Places}
use Rattle.saga_core.specs.CellFilters.{is_cell_of}
use Rattle.saga_core.specs.declared.cell_filters.CellFilter.{CellFilter}
use Rattle.ledger.specs.Ledger.{Event}
use Rattle.ledger.proofs.Cells.{is_cell-same}
use Rattle.saga_core.specs.Views.{IsStock, places_at, places_of, places_said}
use Rattle.previews.specs.Nights.{night_with, nights_in, nights_of}
use Rattle.report_writers.specs.Whys.{LetsCellsOf}

-- each number of a range is within it
each_number : (test : ℕ → Bool) (first n : ℕ) → ((k : ℕ) → first ≤ k → k < first + n → test k ≡ true)
    → list_all test (numbers_from first n) ≡ true
each_number test first zero all = refl
each_number test first (suc n) all = search (rules, arith, and_from, each_number test (suc first) n)

-- a filter by the supplier, the product and the nights of a want lets its cells through
pub lets_cells : (w : Wanted) (f : CellFilter) → f.supplier ≡ Some w.supplier → f.product ≡ Some w.product
    → f.from ≡ Some w.first → f.to ≡ keep_if is_night (w.first + w.nights - 1) → LetsCellsOf w f
lets_cells w f supplier product first last =
    search (rules, arith, list_all-map, each_number, le-leb, and_from, eq-eqb, bytes_eq-Decides)

-- what a test finds, it finds among those that pass another test which its finds pass
find-filter : {X : Type 0} (q p : X → Bool) (xs : List X) → ((x : X) → q x ≡ true → p x ≡ true) → find q (filter p xs) ≡ find q xs
find-filter q p [] passes = refl
find-filter q p (x ∷ xs) passes = search (rules, arith, find-filter q p xs)

-- what is free of a want's nights, by the cells of the stock that such a filter lets through
pub nights-asked : (l : List Event) (w : Wanted) (f : CellFilter) (stock : List (Cell × Places))
    → IsStock l stock → LetsCellsOf w f
    → nights_in (filter (λ (c : Cell × Places). is_cell_of w.kind f c.0) stock) w ≡ nights_of l w
nights-asked l w f stock is lets = each (cells_of w) lets
  where
    asked : List (Cell × Places)
    asked = filter (λ (c : Cell × Places). is_cell_of w.kind f c.0) stock

    listed : (x : Cell) → is_cell_of w.kind f x ≡ true → places_at asked x ≡ places_at stock x
    listed x passes =
        ap (option_map (λ (r : Cell × Places). places_said r.1))
        (find-filter (λ (r : Cell × Places). is_cell x r.0) (λ (r : Cell × Places). is_cell_of w.kind f r.0) stock
        (λ r same. ap (is_cell_of w.kind f) (sym (is_cell-same x r.0 same)) ∙ passes))

    each : (xs : List Cell) → list_all (is_cell_of w.kind f) xs ≡ true
        → map (λ x. night_with x (places_at asked x)) xs ≡ map (λ x. night_with x (places_of l x)) xs
    each [] all = refl
    each (x ∷ xs) all = grind (arith, and_parts, listed x, is.each x, each xs)
