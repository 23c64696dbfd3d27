-- In which phases the journeys of a ledger are: what the items of other journeys leave, and what follows if none is in
-- such a phase. For the parts that recovery adds.
use Rattle.std.proofs.Common.{◌≡◌, ℕ, zero, suc, ◌+◌, ◌<◌, ◌≤◌, List, [], ◌∷◌, ◌++◌, length, refl, ap, sym, ◌∙◌, arith, append_assoc, append-nil, Bool, true, false, ◌==◌, nat_lt, Option, option_map, unwrap_or, inl, inr}
use Rattle.std.proofs.lemmas.Bool.{and_parts, ltb-true, or_parts, ne_eqb, not-true, cases_eq, cases_lt}
use Rattle.std.proofs.lemmas.Option.{slice_get_past}
use Rattle.std.specs.List.{list_all, list_any}
use Rattle.allotment.specs.Cells.{numbers_from}
use Rattle.commands.specs.declared.items.Item.{Item}
use Rattle.commands.specs.declared.items.Phase.{Phase}
use Rattle.ledger.specs.History.{phase}
use Rattle.ledger.specs.Ledger.{Event, Did, Journey, journeys, is_in}
use Rattle.ledger.specs.Recovery.{journey_of, are_items, has_none}
use Rattle.ledger.proofs.Growing.{journeys-did, history-did_other}

-- What other journeys do.

-- with this history the journey, if there is one, is in a phase that passes
abbrev pub passing : (Phase → Bool) → List Item → Option Journey → Bool
passing passes h o =
    unwrap_or (option_map passes (option_map (λ (a : Journey). phase a.plan h) o)) false

-- an item of another journey leaves the phase of this one
is_in-did_other : (passes : Phase → Bool) (l : List Event) (k : ℕ) (item : Item) (j : ℕ)
    → (j == k) ≡ false → is_in passes (l ++ Did k item ∷ []) j ≡ is_in passes l j
is_in-did_other passes l k item j other = grind (arith, history-did_other, journeys-did)

-- items of later journeys leave the phase of this one, however many there are
pub is_in-later : (passes : Phase → Bool) (test : Item → Bool) (j : ℕ) (l p : List Event)
    → list_all (are_items test) p ≡ true → list_all (λ d. nat_lt j (journey_of d)) p ≡ true
    → is_in passes (l ++ p) j ≡ is_in passes l j
is_in-later passes test j l [] items later = ap (λ m. is_in passes m j) (append-nil l)
is_in-later passes test j l (Did k item ∷ p) items later =
    let above = and_parts (nat_lt j k) (list_all (λ d. nat_lt j (journey_of d)) p) later in
    let higher = ltb-true j k above.0 in
    ap (λ m. is_in passes m j) (sym (append_assoc l (Did k item ∷ []) p))
    ∙ is_in-later passes test j (l ++ Did k item ∷ []) p (and_parts (test item) (list_all (are_items test) p) items).1 above.1
    ∙ is_in-did_other passes l k item j (ne_eqb j k (λ e. omega arith))
is_in-later passes test j l (_ ∷ p) items later = cc

-- Numbers.

-- a test that none of consecutive numbers passes fails at each of them
none-numbered : (test : ℕ → Bool) (first n j : ℕ) → list_any test (numbers_from first n) ≡ false
    → first ≤ j → j < first + n → test j ≡ false
none-numbered test first zero j none low high = absurd (omega arith)
none-numbered test first (suc n) j none low high =
    let later = none-numbered test (suc first) n j in grind (arith, or_parts, cases_eq first j)

-- where no journey is in such a phase, this one is not
pub has_none-at : (passes : Phase → Bool) (l : List Event) (j : ℕ) → has_none passes l ≡ true
    → is_in passes l j ≡ false
has_none-at passes l zero none = refl
has_none-at passes l (suc i) none = elim (cases_lt i (length (journeys l))) [
  | inl within ↦ none-numbered (is_in passes l) 1 (length (journeys l)) (suc i) (not-true _ none) (omega arith) (omega arith)
  | inr past ↦ grind (arith, slice_get_past)
]
