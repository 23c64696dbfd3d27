-- One journey in a pass, step by step. For `carry_one`.
use Rattle.std.proofs.Common.{◌≡◌, ℕ, ◌+◌, List, [], ◌∷◌, ◌++◌, ap, sym, ◌∙◌, append_assoc, append-nil, subst, Bool, true, false, Some, None}
use Rattle.commands.specs.declared.replies.Fault.{Fault}
use Rattle.commands.specs.declared.items.Phase.{Phase}
use Rattle.ledger.specs.Answer.{State}
use Rattle.ledger.specs.Ledger.{Event, Did, is_in, IsLegal}
use Rattle.recovery.specs.Asking.{Steps, StepsOrNot, IsStepOrNone, stays, goes}
use Rattle.recovery.specs.Growing.{with_events, Grew, GrewFull, MayHaveGrown}
use Rattle.recovery.specs.Passes.{goes_on, Carry, CarryOut}
use Rattle.recovery.specs.declared.passes.Pass.{Pass}
use Rattle.recovery.proofs.CarryLemmas.{in-open, carry-more, goes-told}
use Rattle.recovery.proofs.PassLemmas.{grew-as, grew-full, grew-one, may-join}

-- the events are steps of the journey, after which the pass goes on with it or not
pub record Carrying (p : Pass) (j : ℕ) (l : List Event) (on : Bool) (events : List Event) : Type 0 where
  pub carry : Carry p j l events
  pub then : is_in (goes_on p) (l ++ events) j ≡ on

module _ {p : Pass} {stood : State → Type 0} {s : State} {j made : ℕ} (t : Grew stood (Carrying p j s.ledger true) s made) where
  module _ {stands : State → Type 0} where
    -- one step more, after which the journey is in this phase
    pub one-more : (q : Phase) → IsLegal (s.ledger ++ t.events) → Steps stood stands j (Some q)
        → Grew stands (Carrying p j s.ledger (goes_on p q)) s (made + 1)
    one-more q legal step =
        let went = step (with_events s t.events) t.stands_there (in-open p (s.ledger ++ t.events) j t.are.then) in
        let event = Did j went.item in
        grew-one t event went.room (record {
          carry = carry-more p j s.ledger t.events went.item t.are.carry legal t.are.then went.forward went.allowed;
          then =
              ap (λ m. is_in (goes_on p) m j) (sym (append_assoc s.ledger t.events (event ∷ [])))
              ∙ goes-told p ((s.ledger ++ t.events) ++ event ∷ []) j q went.comes_to;
        }) went.stands_there

    -- the pass goes on with the journey
    pub one-on : (q : Phase) → IsLegal (s.ledger ++ t.events) → Steps stood stands j (Some q) → goes_on p q ≡ true
        → Grew stands (Carrying p j s.ledger true) s (made + 1)
    one-on q legal step on = subst (λ v. Grew stands (Carrying p j s.ledger v) s (made + 1)) on (one-more q legal step)

    -- the pass is done with the journey
    pub one-done : (q : Phase) → IsLegal (s.ledger ++ t.events) → Steps stood stands j (Some q) → goes_on p q ≡ false
        → Grew stands (CarryOut p j s.ledger) s (made + 1)
    one-done q legal step out =
        let m = one-more q legal step in
        grew-as m (record { carry = m.are.carry; done = m.are.then ∙ out }) m.stands_there

    -- the step found the ledger full
    pub one-refused : Steps stood stands j None → GrewFull stands (Carry p j s.ledger) s made
    one-refused step =
        let stayed = step (with_events s t.events) t.stands_there (in-open p (s.ledger ++ t.events) j t.are.then) in
        grew-full t t.are.carry stayed.1 stayed.0

  -- the step met a fault
  pub one-fault : {left : State → State → Type 0} {fault : Fault} → IsLegal (s.ledger ++ t.events) → StepsOrNot stood left j fault
      → MayHaveGrown left (Carry p j s.ledger) s fault
  one-fault legal step =
      may-join t (step (with_events s t.events) t.stands_there (in-open p (s.ledger ++ t.events) j t.are.then)) go
    where
      go : (more : List Event) → IsStepOrNone (s.ledger ++ t.events) j more → Carry p j s.ledger (t.events ++ more)
      go _ stays = subst (Carry p j s.ledger) (sym (append-nil t.events)) t.are.carry
      go _ (goes item forward allowed) = carry-more p j s.ledger t.events item t.are.carry legal t.are.then forward allowed
