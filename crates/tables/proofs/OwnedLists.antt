-- The journeys of an agent above a number that no journey has. For `read_owned`.
use Rattle.std.proofs.Common.{◌≡◌, ◌≤◌, ℕ, zero, suc, ◌+◌, List, [], ◌∷◌, filter, filter_map, take, length, Bool, true, Option, Some, None, Vec, refl, sym, ap, ◌∙◌, arith, option_map, rules, le-ltb}
use Rattle.std.specs.List.{cons_option}
use Rattle.std.proofs.lemmas.Bool.{and_from, and_parts, lt-ltb, ltb-true}
use Rattle.allotment.specs.Cells.{numbers_from}
use Rattle.ledger.specs.Ledger.{Event, Journey, history, journey_at, journeys, numbers}
use Rattle.saga_core.specs.Views.{brief_of, brief_of_journey, is_owned_above, owned_above}
use Rattle.saga_core.specs.declared.records.Brief.{Brief}

filter_fewer : {X : Type 0} (p q : X → Bool) (xs : List X) → ((x : X) → q x ≡ true → p x ≡ true) → filter p xs ≡ [] → filter q xs ≡ []
filter_fewer p q [] fewer none = refl
filter_fewer {X} p q (x ∷ xs) fewer none = search (rules, arith, filter_fewer p q xs)

-- if none is taken of the journeys of an agent above a number, none is of those above a greater one
pub none_above : (l : List Event) (agent : List ℕ) (low high most : ℕ) → low ≤ high → take most (owned_above l agent low) ≡ []
    → take most (owned_above l agent high) ≡ []
none_above l agent low high zero above none = refl
none_above l agent low high (suc n) above none =
    ap (take (suc n))
    (filter_fewer (is_owned_above agent low) (is_owned_above agent high) (filter_map (brief_of l) (numbers l))
    (λ b is.
    let both = and_parts _ _ is in
    let greater = ltb-true high b.id both.0 in
    and_from _ _ (lt-ltb low b.id (omega (arith, above, greater))) both.1)
    (empty (owned_above l agent low) none))
  where
    empty : (bs : List Brief) → take (suc n) bs ≡ [] → bs ≡ []
    empty [] is = refl
    empty (b ∷ bs) is = absurd (cc)

none_from : (l : List Event) (agent : List ℕ) (high first m : ℕ) → first + m ≤ suc high
    → filter (is_owned_above agent high) (filter_map (brief_of l) (numbers_from first m)) ≡ []
none_from l agent high first zero low = refl
none_from l agent high first (suc m) low =
    go (journey_at l first) (none_from l agent high (suc first) m (omega (arith, low)))
  where
    go : (found : Option Journey) → filter (is_owned_above agent high) (filter_map (brief_of l) (numbers_from (suc first) m)) ≡ []
        → filter (is_owned_above agent high)
        (cons_option (option_map (brief_of_journey first (history l first)) found) (filter_map (brief_of l) (numbers_from (suc first) m)))
        ≡ []
    go None rest = rest
    go (Some a) rest = grind (arith, le-ltb)

-- no journey has a number above the number of journeys
pub none_past : (l : List Event) (agent : List ℕ) (high most : ℕ) → length (journeys l) ≤ high → take most (owned_above l agent high) ≡ []
none_past l agent high most low =
    ap (take most) (none_from l agent high 1 (length (journeys l)) (omega (arith, low))) ∙ none most
  where
    none : (n : ℕ) → take {A = Brief} n [] ≡ []
    none zero = refl
    none (suc n) = refl

-- a list without a length is empty
pub no_items : {X Z : Type 0} (v : Vec X Z) → v.len ≡ 0 → v.items ≡ []
no_items {X} v zero_long = go v.items (sym v.ok.0 ∙ zero_long)
  where
    go : (xs : List X) → length xs ≡ 0 → xs ≡ []
    go [] none = refl
    go (x ∷ xs) none = absurd (omega (arith, none))
