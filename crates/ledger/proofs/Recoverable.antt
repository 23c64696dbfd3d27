-- What recovery has to go on with, and where it has gone on: a journey that goes back has a compensation, an open one a
-- step, and after these none is left. For the law of recovery.
use Rattle.std.proofs.Common.{◌≡◌, ℕ, zero, suc, ◌+◌, ◌<◌, ◌≤◌, List, [], ◌∷◌, ◌++◌, refl, ap, sym, ◌∙◌, arith, append_assoc, append-nil, Bool, true, false, Option, Some, None, option_map, unwrap_or}
use Rattle.std.proofs.lemmas.Bool.{and_parts, or_from}
use Rattle.std.specs.List.{list_all, list_any}
use Rattle.allotment.specs.Cells.{numbers_from}
use Rattle.commands.specs.declared.items.Item.{Item}
use Rattle.commands.specs.declared.items.Phase.{Phase}
use Rattle.ledger.specs.History.{next_want, is_going_back, is_open, is_compensation, may_come}
use Rattle.ledger.specs.Ledger.{Event, Did, Journey, journeys, journey_at, history, fits, is_in, is_item_allowed, IsLegal}
use Rattle.ledger.specs.Recovery.{are_items, is_forward}
use Rattle.allotment.proofs.TestLemmas.{list_all_weaker}
use Rattle.ledger.proofs.Coming.{step-comes, refused-comes}
use Rattle.ledger.proofs.Deciding.{run_or_back, each_open_has_one}
use Rattle.ledger.proofs.Growing.{journeys-did}
use Rattle.ledger.proofs.Phases.{passing}
use Rattle.ledger.proofs.Recovering.{compensation-forward}

-- Stages.

-- items of this kind are steps, and a journey in this kind of phase may make one
pub record IsStage (test : Item → Bool) (passes : Phase → Bool) : Type 0 where
  pub steps : (x : Item) → test x ≡ true → is_forward x ≡ true
  pub has : (l : List Event) (j : ℕ) → IsLegal l → is_in passes l j ≡ true
      → (x : Item) × (test x ≡ true) × (is_item_allowed l j x ≡ true)

-- a journey that goes back is open
back-open : (h : List Item) (o : Option Journey) → passing is_going_back h o ≡ true → passing is_open h o ≡ true
back-open h o e = grind arith

-- of the items that a step makes only a compensation may come in it
back-compensates : (h : List Item) (o : Option Journey) (fit : Journey → Bool) (x : Item)
    → passing is_going_back h o ≡ true → is_forward x ≡ true
    → unwrap_or (option_map (λ (a : Journey). may_come a.plan h (fit a) x) o) false ≡ true → is_compensation x ≡ true
back-compensates h None fit x back forward may = cc
back-compensates h (Some a) fit x back forward may = grind (arith, run_or_back, step-comes, refused-comes)

-- journeys that go back go on by compensations
pub back-stage : IsStage is_compensation is_going_back
back-stage = record {
  steps = compensation-forward;
  has = λ l j legal back.
      let one = each_open_has_one l legal j (back-open (history l j) (journey_at l j) back) in (
        one.step,
        back-compensates (history l j) (journey_at l j) (λ a. fits l (next_want a.plan (history l j)))
            one.step back one.forward one.allowed,
        one.allowed,
      );
}

-- open journeys go on by steps
pub forward-stage : IsStage is_forward is_open
forward-stage = record {
  steps = λ x e. e;
  has = λ l j legal in_it.
      let one = each_open_has_one l legal j in_it in (one.step, one.forward, one.allowed);
}

-- Parts.

-- items begin no journey
pub journeys-items : (test : Item → Bool) (p l : List Event) → list_all (are_items test) p ≡ true
    → journeys (l ++ p) ≡ journeys l
journeys-items test [] l items = ap journeys (append-nil l)
journeys-items test (Did k x ∷ p) l items =
    ap journeys (sym (append_assoc l (Did k x ∷ []) p))
    ∙ journeys-items test p (l ++ Did k x ∷ []) (and_parts (test x) (list_all (are_items test) p) items).1 ∙ journeys-did l k x
journeys-items test (_ ∷ p) l items = cc

-- a test that fails at each of consecutive numbers is passed by none
pub none-pass : (test : ℕ → Bool) (n first : ℕ)
    → ((j : ℕ) → first ≤ j → j < first + n → test j ≡ false)
    → list_any test (numbers_from first n) ≡ false
none-pass test zero first each = refl
none-pass test (suc n) first each = grind (arith, or_from, none-pass test n (suc first))

-- compensations are steps
pub compensations-forward : (p : List Event) → list_all (are_items is_compensation) p ≡ true
    → list_all (are_items is_forward) p ≡ true
compensations-forward = grind (arith, list_all_weaker, compensation-forward)
