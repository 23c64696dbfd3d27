-- The list of the unfinished journeys above a number, and the first of them. For the looks of `TableBook`.
use Rattle.std.proofs.Common.{◌≡◌, ℕ, ◌≤◌, List, [], ◌∷◌, refl, ap, sym, ◌∙◌, arith, Bool, filter, find, slice_get}
use Rattle.ledger.specs.Ledger.{Event}
use Rattle.saga_core.specs.Views.{first_unfinished, is_unfinished_above, unfinished_of}
use Rattle.saga_core.specs.declared.records.Brief.{Brief}
use Rattle.saga_core.proofs.BriefLemmas.{briefs_of}
use Rattle.tables.specs.FinishedJourneys.{AreFinishedTo}
use Rattle.tables.proofs.WalkLemmas.{all_listed}

-- if all journeys up to a number have finished, so have those up to a lower one
pub finished_lower : (l : List Event) (n m : ℕ) → m ≤ n → AreFinishedTo l n → AreFinishedTo l m
finished_lower l n m low has = record {
  begun = (let begun = has.begun in omega (arith, begun, low));
  closed = λ j under. has.closed j (omega (arith, under, low));
}

find_first : (test : Brief → Bool) (bs : List Brief) → slice_get (filter test bs) 0 ≡ find test bs
find_first test [] = refl
find_first test (b ∷ bs) = let rest = find_first test bs in grind (arith, rest)

-- the first of the list is the journey with the least number
pub first_listed : (l : List Event) (n : ℕ) (shown : List Brief) → shown ≡ filter (is_unfinished_above n) (briefs_of l)
    → slice_get shown 0 ≡ first_unfinished l n
first_listed l n shown is = ap (λ bs. slice_get bs 0) is ∙ find_first (is_unfinished_above n) (briefs_of l)

-- if all journeys up to n have finished, a search above n finds the same as a search above a lower number
pub first-from : (l : List Event) (n after : ℕ) → AreFinishedTo l n → after ≤ n → first_unfinished l n ≡ first_unfinished l after
first-from l n after has low =
    sym (first_listed l n (unfinished_of l) (sym (all_listed l n has)))
    ∙ first_listed l after (unfinished_of l) (sym (all_listed l after (finished_lower l n after low has)))
