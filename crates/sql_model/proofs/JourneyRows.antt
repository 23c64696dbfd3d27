-- The rows of journeys represent the journeys. For Readings, and for reads of unfinished journeys.
use Rattle.std.proofs.Common.{◌≡◌, ℕ, zero, suc, ◌+◌, ◌<◌, List, filter, length, Option, Some, None, refl, sym, ap, ◌∙◌, arith, eqb-true, eq-eqb, slice_get, option_map, rules}
use Rattle.std.specs.List.{AllByRecursion}
use Rattle.std.specs.List.Sorted.{IsPermutation}
use Rattle.sqlite_trees.proofs.ListLemmas.{ascending-map}
use Rattle.sqlite_rules.specs.Lists.{Has}
use Rattle.sqlite_rules.proofs.ListLemmas.{all_from, has_filtered, has_kept}
use Rattle.sqlite_rules.proofs.ProbeLemmas.{has_mapped, mapped_has}
use Rattle.desk_sql.specs.Lists.{IsOneOf}
use Rattle.desk_sql.specs.Rows.{JourneyRow}
use Rattle.desk_sql.proofs.Members.{permutation_from, permutation_to}
use Rattle.plan.specs.PlanModel.{numbered}
use Rattle.ledger.specs.Ledger.{Event, Journey, journeys, journey_at, history}
use Rattle.ledger.proofs.Lists.{number-within}
use Rattle.sql_model.specs.ExpectedRows.{Begun, begun, journey_row_of, journeys_called}
use Rattle.desk_sql.specs.FoundRows.{is_numbered}
use Rattle.sql_model.specs.Reading.{Tells, IsJourneyOf}
use Rattle.sql_model.proofs.EventRows.{begun-journeys}
use Rattle.sql_model.proofs.Numbering.{counted_numbered, numbered_counted, counted_rises, slice_get-map}
use Rattle.sql_model.proofs.Orders.{Rises}

-- the row of a journey that was begun
abbrev pub row_in : List Event → ℕ × Begun → JourneyRow
row_in l b = journey_row_of (history l b.0) b.0 b.1

-- the journey of a number is the one that was begun under it
pub journey_at-begun : (l : List Event) (n : ℕ) → journey_at l n ≡ option_map (λ (b : Begun). b.journey) (numbered (begun l) n)
journey_at-begun l zero = refl
journey_at-begun l (suc i) = search (rules, arith, begun-journeys, slice_get-map)

pub begun_at : (l : List Event) (n : ℕ) (b : Begun) → numbered (begun l) n ≡ Some b → journey_at l n ≡ Some b.journey
begun_at l n b e = journey_at-begun l n ∙ ap (option_map (λ (x : Begun). x.journey)) e

pub begun_there : (l : List Event) (i : ℕ) (b : Begun) → slice_get (begun l) i ≡ Some b
    → slice_get (journeys l) i ≡ Some b.journey
begun_there l i b e = begun_at l (suc i) b e

pub there_begun : (l : List Event) (i : ℕ) (a : Journey) → slice_get (journeys l) i ≡ Some a
    → (b : Begun) × (slice_get (begun l) i ≡ Some b) × (b.journey ≡ a)
there_begun l i a e = go (slice_get (begun l) i) refl (sym (journey_at-begun l (suc i)) ∙ e)
  where
    go : (o : Option Begun) → slice_get (begun l) i ≡ o → option_map (λ (x : Begun). x.journey) (slice_get (begun l) i) ≡ Some a
        → (b : Begun) × (slice_get (begun l) i ≡ Some b) × (b.journey ≡ a)
    go None f told = cc
    go (Some b) f told = (b, f, (cc))

-- each expected row is that of a journey as it was begun
row_begun : (l : List Event) (r : JourneyRow) → Has (journeys_called l) r
    → (b : Begun) × (numbered (begun l) r.id ≡ Some b) × (r ≡ row_in l (r.id, b))
row_begun l r h = search (rules, arith, has_mapped, counted_numbered)

-- each expected row is that of a journey
pub journey_told : (l : List Event) (r : JourneyRow) → Has (journeys_called l) r
    → (a : Journey) × (journey_at l r.id ≡ Some a) × IsJourneyOf l r a
journey_told l r h = search (rules, arith, row_begun, begun_at)

-- each journey has its row
pub journey_has : (l : List Event) (id : ℕ) (a : Journey) → journey_at l id ≡ Some a
    → (r : JourneyRow) × Has (journeys_called l) r × (r.id ≡ id)
journey_has l zero a e = cc
journey_has l (suc i) a e =
    let b = there_begun l i a e in
    (row_in l (suc i, b.0), mapped_has (row_in l) _ (suc i, b.0) (numbered_counted (begun l) (suc i) b.0 b.1), refl)

-- the row found with a number matches the journey with that number
pub journey_found : (l : List Event) (rows : List JourneyRow) (id : ℕ) (found : Option JourneyRow)
    → IsPermutation (journeys_called l) rows
    → IsOneOf (filter (is_numbered id) rows) found
    → Tells (λ r a. (r.id ≡ id) × IsJourneyOf l r a) found (journey_at l id)
journey_found l rows id found same one = go found one (journey_at l id) refl
  where
    go : (f : Option JourneyRow) → IsOneOf (filter (is_numbered id) rows) f → (o : Option Journey) → journey_at l id ≡ o
        → Tells (λ (r : JourneyRow) a. (r.id ≡ id) × IsJourneyOf l r a) f o
    go None none None e = tt
    go None none (Some a) e =
        let r = journey_has l id a e in
        rw none at (has_kept (is_numbered id) rows r.0 (permutation_to (journeys_called l) rows r.0 same r.1) (eq-eqb _ _ r.2))
    go (Some r) one o e =
        let there = has_filtered (is_numbered id) rows r one in
        let is = eqb-true r.id id there.1 in
        let told = journey_told l r (permutation_from (journeys_called l) rows r same there.0) in
        rw (sym e ∙ ap (journey_at l) (sym is) ∙ told.1) (is, told.2)

-- the row found with a number has the number of the event that began the journey
pub journey_begins : (l : List Event) (rows : List JourneyRow) (id : ℕ) (r : JourneyRow)
    → IsPermutation (journeys_called l) rows → IsOneOf (filter (is_numbered id) rows) (Some r)
    → (b : Begun) × (numbered (begun l) id ≡ Some b) × (r.num ≡ b.num)
journey_begins l rows id r same one =
    let there = has_filtered (is_numbered id) rows r one in
    let b = row_begun l r (permutation_from (journeys_called l) rows r same there.0) in
    (b.0, ap (numbered (begun l)) (sym (eqb-true r.id id there.1)) ∙ b.1, ap (λ (x : JourneyRow). x.num) b.2)

-- Order.

-- the expected rows rise by number
pub called_rises : (l : List Event) → Rises (λ (r : JourneyRow). r.id) (journeys_called l)
called_rises l = search (rules, arith, ascending-map, counted_rises)

-- the next number is above the number of each row
pub next_above : (l : List Event) (rows : List JourneyRow) → IsPermutation (journeys_called l) rows
    → AllByRecursion (λ (r : JourneyRow). r.id < length (journeys l) + 1) rows
next_above l rows same =
    all_from _ rows
    (λ r h.
    let told = journey_told l r (permutation_from (journeys_called l) rows r same h) in
    let within = number-within (journeys l) r.id told.0 told.1 in omega arith)
