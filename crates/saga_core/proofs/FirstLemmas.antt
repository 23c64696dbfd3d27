-- The first unfinished journey, and what it implies for the others. For recovery, and for books that remember
-- finished journeys.
use Rattle.std.proofs.Common.{◌≡◌, ℕ, zero, suc, ◌+◌, ◌<◌, ◌≤◌, List, length, cond, refl, ap, ◌∙◌, arith, eqb-true, Bool, true, false, ◌==◌, not, nat_lt, Option, Some, None, find, filter_map}
use Rattle.std.proofs.lemmas.Bool.{and_parts, eqb-false, ltb-true, ltb-false}
use Rattle.std.proofs.lemmas.Option.{slice_get_past}
use Rattle.std.specs.List.{cons_option}
use Rattle.allotment.specs.Cells.{numbers_from}
use Rattle.ledger.specs.History.{is_finished, is_open}
use Rattle.ledger.specs.Ledger.{Event, journeys, phase_of, is_in}
use Rattle.ledger.proofs.Phases.{passing}
use Rattle.saga_core.specs.Views.{brief_of, first_unfinished, is_unfinished_above}
use Rattle.saga_core.specs.declared.records.Brief.{Brief}

-- the number and the phase in a journey's brief
pub record Tells (m : List Event) (j : ℕ) (b : Brief) : Type 0 where
  pub number : b.id ≡ j
  pub phase_is : phase_of m j ≡ Some b.cursor.phase

pub tells : (m : List Event) (j : ℕ) (b : Brief) → brief_of m j ≡ Some b → Tells m j b
tells m j b is = grind arith

-- a number without a brief has no journey
pub untold : (m : List Event) (j : ℕ) → brief_of m j ≡ None → is_in is_open m j ≡ false
untold m j is = grind (arith, passing)

-- the search result among so many numbers, from the first on
data Found (m : List Event) (after first n : ℕ) : Option Brief → Type 0 where
  found : (b : Brief) → b.id < first + n → after < b.id
      → phase_of m b.id ≡ Some b.cursor.phase → is_open b.cursor.phase ≡ true
      → ((k : ℕ) → first ≤ k → after < k → k < b.id → is_in is_open m k ≡ false)
      → first ≤ b.id → Found m after first n (Some b)
  none : ((k : ℕ) → first ≤ k → after < k → k < first + n → is_in is_open m k ≡ false)
      → Found m after first n None

-- if the first number has no open journey, what holds of the later numbers holds of all
at_first : (m : List Event) (after first k : ℕ)
    → (after < first → is_in is_open m first ≡ false) → first ≤ k → after < k
    → (suc first ≤ k → is_in is_open m k ≡ false) → (v : Bool) → (first == k) ≡ v
    → is_in is_open m k ≡ false
at_first m after first k closed low above rest v e = grind (arith, eqb-true, eqb-false)

-- if the first number has no open journey, the search result is that of the later numbers
skip : (m : List Event) (after first n : ℕ) (o : Option Brief)
    → (after < first → is_in is_open m first ≡ false)
    → Found m after (suc first) n o → Found m after first (suc n) o
skip m after first n _ closed (found b high above is unfinished before low) =
    found b (omega arith) above is unfinished
    (λ k lowk abovek below.
    at_first m after first k closed lowk abovek (λ up. before k up abovek below) (first == k) refl)
    (omega arith)
skip m after first n _ closed (none before) =
    none (λ k lowk abovek below.
    at_first m after first k closed lowk abovek (λ up. before k up abovek (omega arith))
    (first == k) refl)

-- a journey that does not match is not above, or it is finished
not_open : (after : ℕ) (m : List Event) (first : ℕ) (b : Brief) → Tells m first b
    → is_unfinished_above after b ≡ false → after < first → is_in is_open m first ≡ false
not_open after m first b t fails above = grind (arith, ltb-false)

-- the journeys are examined in order
found-from : (m : List Event) (after n first : ℕ)
    → Found m after first n
    (find (is_unfinished_above after) (filter_map (brief_of m) (numbers_from first n)))
found-from m after zero first = none (λ k low above high. absurd (omega arith))
found-from m after (suc n) first =
    by_brief (brief_of m first) refl (found-from m after n (suc first))
  where
    by_test : (b : Brief) → Tells m first b → (v : Bool) → is_unfinished_above after b ≡ v
        → Found m after (suc first) n
        (find (is_unfinished_above after) (filter_map (brief_of m) (numbers_from (suc first) n)))
        → Found m after first (suc n) (cond v (Some b)
        (find (is_unfinished_above after) (filter_map (brief_of m) (numbers_from (suc first) n))))
    by_test b t true passes rest =
        let both = and_parts (nat_lt after b.id) (not (is_finished b.cursor.phase)) passes in
        found b (omega arith) (ltb-true _ _ both.0) (ap (phase_of m) t.number ∙ t.phase_is) both.1
        (λ k low abovek below. absurd (omega arith)) (omega arith)
    by_test b t false fails rest = skip m after first n _ (not_open after m first b t fails) rest

    by_brief : (o : Option Brief) → brief_of m first ≡ o
        → Found m after (suc first) n
        (find (is_unfinished_above after) (filter_map (brief_of m) (numbers_from (suc first) n)))
        → Found m after first (suc n)
        (find (is_unfinished_above after)
        (cons_option o (filter_map (brief_of m) (numbers_from (suc first) n))))
    by_brief None is rest = skip m after first n _ (λ above. untold m first is) rest
    by_brief (Some b) is rest =
        by_test b (tells m first b is) (is_unfinished_above after b) refl rest

-- the first open journey above a number: it is open, and those between are not
pub record IsFirst (m : List Event) (after : ℕ) (b : Brief) : Type 0 where
  pub above : after < b.id
  pub within : b.id ≤ length (journeys m)
  pub phase_is : phase_of m b.id ≡ Some b.cursor.phase
  pub unfinished : is_open b.cursor.phase ≡ true
  pub between : (k : ℕ) → after < k → k < b.id → is_in is_open m k ≡ false

pub first-found : (m : List Event) (after : ℕ) (b : Brief)
    → Some b ≡ first_unfinished m after → IsFirst m after b
first-found m after b is =
    go (first_unfinished m after) (found-from m after (length (journeys m)) 1) is
  where
    go : (o : Option Brief) → Found m after 1 (length (journeys m)) o → Some b ≡ o
        → IsFirst m after b
    go _ (none before) e = cc
    go _ (found c high above phase_is unfinished between low) e = grind arith

-- if none is found, there is none above
pub first-none : (m : List Event) (after : ℕ) → None ≡ first_unfinished m after
    → (k : ℕ) → after < k → is_in is_open m k ≡ false
first-none m after is =
    go (first_unfinished m after) (found-from m after (length (journeys m)) 1) is
  where
    beyond : (k : ℕ) → length (journeys m) < k → is_in is_open m k ≡ false
    beyond k far = grind (arith, passing, slice_get_past)

    at : (k : ℕ) → ((k ≤ length (journeys m)) → is_in is_open m k ≡ false) → (v : Bool)
        → nat_lt (length (journeys m)) k ≡ v → is_in is_open m k ≡ false
    at k within true e = beyond k (ltb-true _ _ e)
    at k within false e = within (ltb-false _ _ e)

    go : (o : Option Brief) → Found m after 1 (length (journeys m)) o → None ≡ o
        → (k : ℕ) → after < k → is_in is_open m k ≡ false
    go _ (none before) e =
        λ k above. at k (λ low. before k (omega arith) above (omega arith))
        (nat_lt (length (journeys m)) k) refl
    go _ (found c high above phase_is unfinished between low) e = cc
