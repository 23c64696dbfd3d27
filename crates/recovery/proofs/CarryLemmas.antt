-- One journey in a pass: each of its steps is of the kind that the pass makes. For `carry_one`.
use Rattle.std.proofs.Common.{◌≡◌, ℕ, List, [], ◌∷◌, ◌++◌, refl, ap, ◌∙◌, eq-eqb, true, false, ◌==◌, Some, option_map, arith}
use Rattle.std.proofs.lemmas.Bool.{and_from}
use Rattle.std.proofs.lemmas.List.Folds.{list_all-append}
use Rattle.std.specs.Prelude.{unwrap_or}
use Rattle.commands.specs.declared.items.Item.{Item}
use Rattle.commands.specs.declared.items.Phase.{Phase}
use Rattle.ledger.specs.History.{is_open}
use Rattle.ledger.specs.Ledger.{Event, Did, is_in, is_item_allowed, phase_of, IsLegal}
use Rattle.ledger.specs.Recovery.{journey_of, are_items, is_forward}
use Rattle.ledger.proofs.Growing.{AreAllowedAfter-join}
use Rattle.ledger.proofs.Deciding.{each_open_has_one}
use Rattle.ledger.proofs.Recoverable.{back-stage}
use Rattle.recovery.specs.Passes.{goes_on, makes, Carry}
use Rattle.recovery.specs.declared.passes.Pass.{Pass}
use Rattle.recovery.proofs.TellLemmas.{is_there}

-- a pass goes on with open journeys only
goes-open : (p : Pass) (q : Phase) → goes_on p q ≡ true → is_open q ≡ true
goes-open p q e = grind arith

-- so a journey with which it goes on is open
pub in-open : (p : Pass) (m : List Event) (j : ℕ) → is_in (goes_on p) m j ≡ true
    → is_in is_open m j ≡ true
in-open p m j goes = grind (arith, is_there, goes-open)

-- the step of such a journey is of the kind that the pass makes
pub step-made : (p : Pass) (m : List Event) (j : ℕ) (item : Item) → IsLegal m
    → is_in (goes_on p) m j ≡ true → is_forward item ≡ true → is_item_allowed m j item ≡ true
    → makes p item ≡ true
step-made p m j item legal goes forward allowed = grind (arith, each_open_has_one, in-open, back-stage)

-- Steps of one journey.

-- one more step
pub carry-more : (p : Pass) (j : ℕ) (l events : List Event) (item : Item) → Carry p j l events
    → IsLegal (l ++ events) → is_in (goes_on p) (l ++ events) j ≡ true → is_forward item ≡ true
    → is_item_allowed (l ++ events) j item ≡ true → Carry p j l (events ++ Did j item ∷ [])
carry-more p j l events item c legal goes forward allowed = record {
  allowed = AreAllowedAfter-join l events (Did j item ∷ []) c.allowed (allowed, tt);
  items =
      list_all-append (are_items (makes p)) events (Did j item ∷ [])
      ∙ and_from _ _ c.items
      (and_from _ _ (step-made p (l ++ events) j item legal goes forward allowed) refl);
  of_journey =
      list_all-append (λ e. journey_of e == j) events (Did j item ∷ [])
      ∙ and_from _ _ c.of_journey (and_from _ _ (eq-eqb j j refl) refl);
}

-- the reported phase of a step is the phase of the journey after it
pub goes-told : (p : Pass) (m : List Event) (j : ℕ) (q : Phase) → phase_of m j ≡ Some q
    → is_in (goes_on p) m j ≡ goes_on p q
goes-told p m j q told = ap (λ o. unwrap_or (option_map (goes_on p) o) false) told
