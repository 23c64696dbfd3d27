-- The places of the holders sum to what is held. For the law.
use Rattle.std.proofs.Common.{◌≡◌, ℕ, ◌+◌, List, [], ◌∷◌, Bool, true, false, Option, Some, None, refl, sym, ap, ◌∙◌, arith, filter_map, flat_map, sum_by, if◌then◌else◌, option_map}
use Rattle.std.specs.Prelude.{unwrap_or}
use Rattle.std.specs.List.{cons_option}
use Rattle.std.proofs.lemmas.List.Sums.{sum_by-append, sum_by-cons}
use Rattle.allotment.specs.Want.{Wanted}
use Rattle.allotment.specs.Cells.{wants_cell}
use Rattle.allotment.specs.declared.cells.Cell.{Cell}
use Rattle.plan.specs.PlanModel.{Planned, want_at}
use Rattle.ledger.specs.Ledger.{Event, Journey, held, held_by, held_by_journey, history, journey_at, numbers, places_in}
use Rattle.ledger.specs.History.{net}
use Rattle.reports.specs.Holders.{holder_if, holders_by, holders_in_journey, holders_of}
use Rattle.reports.specs.declared.holders.Holder.{Holder}

abbrev pub places : Holder → ℕ
places h = h.places

-- what a transaction holds is what its holder has, if it is one
one_more : (x : Cell) (j : ℕ) (t : ℕ × ℕ) (w : Option Wanted) (rest : List Holder)
    → sum_by places (cons_option (holder_if x j t w) rest) ≡ places_in x w + sum_by places rest
one_more x j t None rest = let none : sum_by places rest ≡ 0 + sum_by places rest = omega arith in none
one_more x j t (Some w) rest = go (wants_cell w x)
  where
    go : (v : Bool)
        → sum_by places (cons_option (if v then Some (record { journey = j; step = t.0; option = t.1; places = w.count }) else None) rest)
        ≡ (if v then w.count else 0) + sum_by places rest
    go true = sum_by-cons places (record { journey = j; step = t.0; option = t.1; places = w.count }) rest
    go false = let none : sum_by places rest ≡ 0 + sum_by places rest = omega arith in none

sum_by-holders : (plan : Planned) (x : Cell) (j : ℕ) (ts : List (ℕ × ℕ))
    → sum_by places (filter_map (λ (t : ℕ × ℕ). holder_if x j t (want_at plan t.0 t.1)) ts)
    ≡ sum_by (λ (t : ℕ × ℕ). places_in x (want_at plan t.0 t.1)) ts
sum_by-holders plan x j [] = refl
sum_by-holders plan x j (t ∷ ts) =
    one_more x j t (want_at plan t.0 t.1) (filter_map (λ (t : ℕ × ℕ). holder_if x j t (want_at plan t.0 t.1)) ts)
    ∙ ap (λ n. places_in x (want_at plan t.0 t.1) + n) (sum_by-holders plan x j ts)
    ∙ sym (sum_by-cons (λ (t : ℕ × ℕ). places_in x (want_at plan t.0 t.1)) t ts)

-- the holders in a journey hold what it holds
sum_by-journey : (l : List Event) (x : Cell) (j : ℕ) → sum_by places (holders_in_journey l x j) ≡ held_by_journey l x j
sum_by-journey l x j = go (journey_at l j)
  where
    go : (o : Option Journey)
        → sum_by places (unwrap_or (option_map (λ (a : Journey). holders_by a.plan (history l j) x j) o) [])
        ≡ unwrap_or (option_map (λ (a : Journey). held_by a.plan (history l j) x) o) 0
    go None = refl
    go (Some a) = sum_by-holders a.plan x j (net (history l j))

sum_by-all : (l : List Event) (x : Cell) (js : List ℕ)
    → sum_by places (flat_map (holders_in_journey l x) js) ≡ sum_by (held_by_journey l x) js
sum_by-all l x [] = refl
sum_by-all l x (j ∷ js) =
    sum_by-append places (holders_in_journey l x j) (flat_map (holders_in_journey l x) js)
    ∙ (let one = sum_by-journey l x j in
    let rest = sum_by-all l x js in
    let both : sum_by places (holders_in_journey l x j) + sum_by places (flat_map (holders_in_journey l x) js)
    ≡ held_by_journey l x j + sum_by (held_by_journey l x) js = omega arith in both)
    ∙ sym (sum_by-cons (held_by_journey l x) j js)

-- the holders of a cell hold all that is held of it
pub sum_by-holders_of : (l : List Event) (x : Cell) → sum_by places (holders_of l x) ≡ held l x
sum_by-holders_of l x = sum_by-all l x (numbers l)
