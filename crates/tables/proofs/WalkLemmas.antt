-- The unfinished journeys above a number, counted one after another. For `count_unfinished` and `TableBook`.
use Rattle.std.proofs.Common.{◌≡◌, ℕ, zero, suc, ◌≤◌, List, [], ◌∷◌, length, refl, ap, sym, arith, Bool, false, not, Option, Some, None, filter, filter_map, option_map}
use Rattle.std.proofs.lemmas.Bool.Decides.{nat_tests}
use Rattle.std.proofs.lemmas.List.Sums.{count_by-le-length, length-filter}
use Rattle.sql_reads.proofs.ReadReasons.{few_journeys}
use Rattle.allotment.specs.Cells.{numbers_from}
use Rattle.std.specs.Prelude.{unwrap_or}
use Rattle.ledger.specs.History.{is_finished, is_open}
use Rattle.ledger.specs.Ledger.{Event, is_in, journeys, numbers}
use Rattle.saga_core.specs.Views.{brief_of, first_unfinished, is_unfinished_above, unfinished_of}
use Rattle.saga_core.specs.declared.records.Brief.{Brief}
use Rattle.saga_core.proofs.BriefLemmas.{briefs_of, rises, first_above, none_found}
use Rattle.saga_core.proofs.FirstLemmas.{tells}
use Rattle.tables.specs.FinishedJourneys.{AreFinishedTo}
use Rattle.tables.specs.UnfinishedCount.{unfinished_above}

abbrev goes_on : Brief → Bool
goes_on b = not (is_finished b.cursor.phase)

-- if none is found above a number, none is left to count
pub none_left : (l : List Event) (last : ℕ) → None ≡ first_unfinished l last → unfinished_above l last ≡ 0
none_left l last is = ap length (none_found (is_unfinished_above last) (briefs_of l) (sym is))

-- one that is found is counted, and those above it are left
pub one_counted : (l : List Event) (last : ℕ) (b : Brief) → Some b ≡ first_unfinished l last
    → unfinished_above l last ≡ suc (unfinished_above l b.id)
one_counted l last b is = ap length (first_above goes_on 1 last (briefs_of l) b (rises l) (sym is))

-- a list has as many elements that pass, and are told, as it has elements at most
few_told : {X Y : Type 0} (h : X → Option Y) (xs : List X) → length (filter_map h xs) ≤ length xs
few_told h [] = omega arith
few_told {X} {Y} h (x ∷ xs) = let rest = few_told h xs in grind (arith, rest)

as_many : (first n : ℕ) → length (numbers_from first n) ≡ n
as_many first zero = refl
as_many first (suc n) = ap suc (as_many (suc first) n)

-- no more journeys are unfinished than there are events
pub few_unfinished : (l : List Event) (after : ℕ) → unfinished_above l after ≤ length l
few_unfinished l after =
    let passed = length-filter (is_unfinished_above after) (briefs_of l) in
    let some = count_by-le-length (is_unfinished_above after) (briefs_of l) in
    let told = few_told (brief_of l) (numbers l) in
    let many = as_many 1 (length (journeys l)) in
    let few = few_journeys l in
    omega (arith, passed, some, told, many, few)

-- two tests that agree on the listed journeys let the same ones pass
filter-same : (f g : Brief → Bool) (h : ℕ → Option Brief) (js : List ℕ)
    → ((j : ℕ) (b : Brief) → h j ≡ Some b → f b ≡ g b)
    → filter f (filter_map h js) ≡ filter g (filter_map h js)
filter-same f g h [] agree = refl
filter-same f g h (j ∷ js) agree = let rest = filter-same f g h js agree in grind (arith, rest, agree)

-- if all journeys up to a number have finished, the unfinished ones are those above it
pub all_listed : (l : List Event) (n : ℕ) → AreFinishedTo l n → filter (is_unfinished_above n) (briefs_of l) ≡ unfinished_of l
all_listed l n has =
    filter-same (is_unfinished_above n) goes_on (brief_of l) (numbers l) (λ j b is. (
    let t = tells l j b is in
    let same : is_in is_open l j ≡ goes_on b = ap (λ o. unwrap_or (option_map is_open o) false) t.phase_is in
    let number = t.number in
    let closed = has.closed j in
    grind (arith, nat_tests, same, number, closed)))

pub all_counted : (l : List Event) (n : ℕ) → AreFinishedTo l n → unfinished_above l n ≡ length (unfinished_of l)
all_counted l n has = ap length (all_listed l n has)
