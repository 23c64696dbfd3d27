-- The places of the holders of cells sum to what is held of them. For the law.
use Rattle.std.proofs.Common.{◌≡◌, ℕ, ◌+◌, List, [], ◌∷◌, Bool, true, false, Option, Some, None, refl, sym, ap, ap₂, ◌∙◌, arith, filter_map, flat_map, sum_by, if◌then◌else◌, option_map, nat_le}
use Rattle.std.specs.Prelude.{unwrap_or}
use Rattle.std.specs.List.{cons_option}
use Rattle.std.proofs.lemmas.List.Elements.{filter_map-append}
use Rattle.std.proofs.lemmas.List.Sums.{sum_by-append, sum_by-cons}
use Rattle.allotment.specs.Want.{Wanted}
use Rattle.allotment.specs.Cells.{wants_cell}
use Rattle.allotment.specs.declared.cells.Cell.{Cell}
use Rattle.plan.specs.PlanModel.{Planned, want_at}
use Rattle.ledger.specs.History.{net}
use Rattle.ledger.specs.Ledger.{Event, Journey, held, history, journey_at, numbers}
use Rattle.saga_core.specs.Views.{brief_of, brief_of_journey}
use Rattle.saga_core.specs.declared.records.Brief.{Brief}
use Rattle.reports.specs.Holders.{holder_if, holders_by, holders_in_journey}
use Rattle.reports.specs.Holdings.{by_night, holding_by, holding_of, holdings_in, holdings_of, put_by_night}
use Rattle.reports.specs.declared.holders.Holder.{Holder}
use Rattle.reports.specs.declared.holdings.Holding.{Holding}
use Rattle.reports.proofs.SumLemmas.{places, sum_by-holders_of}

abbrev shown : Holding → ℕ
shown h = h.places

-- The order of cells does not change a sum over them.

sum_by-put : (f : Cell → ℕ) (x : Cell) (ys : List Cell) → sum_by f (put_by_night x ys) ≡ f x + sum_by f ys
sum_by-put f x [] = sum_by-cons f x []
sum_by-put f x (y ∷ later) = go (sum_by-put f x later) (nat_le x.night y.night)
  where
    go : sum_by f (put_by_night x later) ≡ f x + sum_by f later → (v : Bool)
        → sum_by f (if v then x ∷ y ∷ later else y ∷ put_by_night x later) ≡ f x + sum_by f (y ∷ later)
    go more true = sum_by-cons f x (y ∷ later)
    go more false =
        sum_by-cons f y (put_by_night x later)
        ∙ (let whole = sum_by-cons f y later in
        let e : f y + sum_by f (put_by_night x later) ≡ f x + sum_by f (y ∷ later) = omega (arith, more, whole) in e)

sum_by-by_night : (f : Cell → ℕ) (xs : List Cell) → sum_by f (by_night xs) ≡ sum_by f xs
sum_by-by_night f [] = refl
sum_by-by_night f (x ∷ later) =
    sum_by-put f x (by_night later) ∙ ap (λ n. f x + n) (sum_by-by_night f later) ∙ sym (sum_by-cons f x later)

-- The holders of a cell, with what is shown of their journeys.

module _ (l : List Event) (x : Cell) where
  -- the steps of a journey that there is keep their places
  sum_by-shown : (j : ℕ) (b : Brief) → brief_of l j ≡ Some b → (plan : Planned) (ts : List (ℕ × ℕ))
      → sum_by shown (filter_map (holding_of l x) (filter_map (λ (t : ℕ × ℕ). holder_if x j t (want_at plan t.0 t.1)) ts))
      ≡ sum_by places (filter_map (λ (t : ℕ × ℕ). holder_if x j t (want_at plan t.0 t.1)) ts)
  sum_by-shown j b there plan [] = refl
  sum_by-shown j b there plan (t ∷ ts) = go (sum_by-shown j b there plan ts) (want_at plan t.0 t.1)
    where
      rest : List Holder
      rest = filter_map (λ (t : ℕ × ℕ). holder_if x j t (want_at plan t.0 t.1)) ts

      one : sum_by shown (filter_map (holding_of l x) rest) ≡ sum_by places rest → (h : Holder) → h.journey ≡ j
          → sum_by shown (filter_map (holding_of l x) (h ∷ rest)) ≡ sum_by places (h ∷ rest)
      one more h own =
          let found : holding_of l x h ≡ Some (holding_by x h b)
          = ap (λ k. option_map (holding_by x h) (brief_of l k)) own ∙ ap (option_map (holding_by x h)) there in
          ap (λ o. sum_by shown (cons_option o (filter_map (holding_of l x) rest))) found
          ∙ sum_by-cons shown (holding_by x h b) (filter_map (holding_of l x) rest)
          ∙ ap (λ n. h.places + n) more ∙ sym (sum_by-cons places h rest)

      held_or_not : sum_by shown (filter_map (holding_of l x) rest) ≡ sum_by places rest → (w : Wanted) (v : Bool)
          → sum_by shown (filter_map (holding_of l x)
          (cons_option (if v then Some (record { journey = j; step = t.0; option = t.1; places = w.count }) else None) rest))
          ≡ sum_by places (cons_option (if v then Some (record { journey = j; step = t.0; option = t.1; places = w.count }) else None) rest)
      held_or_not more w true = one more (record { journey = j; step = t.0; option = t.1; places = w.count }) refl
      held_or_not more w false = more

      go : sum_by shown (filter_map (holding_of l x) rest) ≡ sum_by places rest → (o : Option Wanted)
          → sum_by shown (filter_map (holding_of l x) (cons_option (holder_if x j t o) rest))
          ≡ sum_by places (cons_option (holder_if x j t o) rest)
      go more None = more
      go more (Some w) = held_or_not more w (wants_cell w x)

  sum_by-one_journey : (j : ℕ)
      → sum_by shown (filter_map (holding_of l x) (holders_in_journey l x j)) ≡ sum_by places (holders_in_journey l x j)
  sum_by-one_journey j = go (journey_at l j) refl
    where
      go : (o : Option Journey) → journey_at l j ≡ o
          → sum_by shown (filter_map (holding_of l x) (unwrap_or (option_map (λ (a : Journey). holders_by a.plan (history l j) x j) o) []))
          ≡ sum_by places (unwrap_or (option_map (λ (a : Journey). holders_by a.plan (history l j) x j) o) [])
      go None is = refl
      go (Some a) is =
          sum_by-shown j (brief_of_journey j (history l j) a) (ap (option_map (brief_of_journey j (history l j))) is) a.plan (net (history l j))

  sum_by-journeys : (js : List ℕ)
      → sum_by shown (filter_map (holding_of l x) (flat_map (holders_in_journey l x) js))
      ≡ sum_by places (flat_map (holders_in_journey l x) js)
  sum_by-journeys [] = refl
  sum_by-journeys (j ∷ js) =
      ap (sum_by shown) (filter_map-append (holding_of l x) (holders_in_journey l x j) (flat_map (holders_in_journey l x) js))
      ∙ sum_by-append shown (filter_map (holding_of l x) (holders_in_journey l x j)) (filter_map (holding_of l x) (flat_map (holders_in_journey l x) js))
      ∙ ap₂ (λ m n. m + n) (sum_by-one_journey j) (sum_by-journeys js)
      ∙ sym (sum_by-append places (holders_in_journey l x j) (flat_map (holders_in_journey l x) js))

  sum_by-holdings_of : sum_by shown (holdings_of l x) ≡ held l x
  sum_by-holdings_of = sum_by-journeys (numbers l) ∙ sum_by-holders_of l x

sum_by-each : (l : List Event) (xs : List Cell) → sum_by shown (flat_map (holdings_of l) xs) ≡ sum_by (held l) xs
sum_by-each l [] = refl
sum_by-each l (x ∷ xs) =
    sum_by-append shown (holdings_of l x) (flat_map (holdings_of l) xs)
    ∙ ap₂ (λ m n. m + n) (sum_by-holdings_of l x) (sum_by-each l xs) ∙ sym (sum_by-cons (held l) x xs)

-- the holders of cells hold all that is held of these cells
pub sum_by-holdings_in : (l : List Event) (cells : List Cell) → sum_by shown (holdings_in l cells) ≡ sum_by (held l) cells
sum_by-holdings_in l cells = sum_by-each l (by_night cells) ∙ sum_by-by_night (held l) cells
