-- An open journey has just one step, and a finished one does not go on. For the law of steps.
use Rattle.std.proofs.Common.{◌≡◌, ℕ, ◌+◌, List, arith, Bool, true, false, Some, find, if◌then◌else◌, IsTrue, unwrap_or}
use Rattle.std.proofs.lemmas.Bool.{false_from_ne_true}
use Rattle.std.proofs.lemmas.Bool.Decides.{nat_tests}
use Rattle.plan.specs.PlanModel.{Planned}
use Rattle.commands.specs.declared.items.Cause.TheVariants.{Refused}
use Rattle.commands.specs.declared.items.Item.{Item}
use Rattle.commands.specs.declared.items.Item.TheVariants.{Transaction, Compensation, Turn}
use Rattle.commands.specs.declared.items.Phase.{Phase}
use Rattle.ledger.specs.Answer.{step_choices}
use Rattle.ledger.specs.History.{net, position_of, refused_target, next_option, next_want, phase, is_running, is_going_back, is_open, is_finished, may_come, last_of}
use Rattle.ledger.specs.Laws.{HasOneStep, EachOpenJourneyHasOneStep, NoFinishedJourneyGoesOn}
use Rattle.ledger.specs.Ledger.{Event, Journey, journey_at, history, fits, IsLegal}
use Rattle.ledger.specs.Recovery.{is_forward}
use Rattle.ledger.proofs.Coming.{step-comes, compensation-comes, refused-comes}
use Rattle.ledger.proofs.Growing.{is_item_allowed-may_do, is_item_allowed-none}
use Rattle.ledger.proofs.Ledgers.{all_go}
use Rattle.ledger.proofs.Lists.{last_of-some}
use Rattle.ledger.proofs.Modes.{Goes, going_back-falls}

-- Phases.

-- no phase both runs and goes back
pub run_or_back : {X : Type 0} (p : Phase) → is_running p ≡ true → is_going_back p ≡ true → X
run_or_back p run back = absurd (grind arith)

-- an open phase is not a finished one
open-unfinished : (p : Phase) → is_open p ≡ true → is_finished p ≡ false
open-unfinished p e = grind arith

-- Of one history.

-- of the items that a step makes this one may come, no other may, and it is the one that is found
pub record OneStep (plan : Planned) (h : List Item) (fits : Bool) : Type 0 where
  pub step : Item
  pub forward : IsTrue (is_forward step)
  pub comes : may_come plan h fits step ≡ true
  pub alone : (other : Item) → IsTrue (is_forward other) → may_come plan h fits other ≡ true → other ≡ step
  pub found : find (may_come plan h fits) (step_choices plan h) ≡ Some step

-- the last transaction that stands, if there is one
abbrev last_step : List Item → ℕ × ℕ
last_step h = unwrap_or (last_of (net h)) (0, 0)

-- the step of a journey: of one that runs the next transaction or the refused turn, else the compensation of its last one
abbrev step_of : Planned → List Item → Bool → Item
step_of plan h fits =
    if is_running (phase plan h)
    then (if fits then Transaction (position_of h + 1) (next_option plan h) else Turn (refused_target plan h) Refused)
    else Compensation (last_step h).0 (last_step h).1

-- a transaction stands if the journey goes back
abbrev HasLast : Planned → List Item → Type 0
HasLast plan h = is_going_back (phase plan h) ≡ true → last_of (net h) ≡ Some (last_step h)

-- a journey that follows its word has a last transaction if it goes back
last-standing : (plan : Planned) (h : List Item) → Goes plan h → HasLast plan h
last-standing plan h g back = grind (arith, going_back-falls, last_of-some)

-- an open journey that follows its word has one step
pub one-step : (plan : Planned) (h : List Item) (fits : Bool) → Goes plan h → is_open (phase plan h) ≡ true → OneStep plan h fits
one-step plan h fits g unfinished =
    let last = last-standing plan h g in
    record {
      step = step_of plan h fits;
      forward = grind arith;
      comes = grind (arith, nat_tests, last);
      alone = λ x forward may. search (arith, step-comes, nat_tests, compensation-comes, refused-comes);
      found = grind (arith, nat_tests, last);
    }

-- Of a ledger.

-- the step of a journey's history is its step in the ledger, and what the desk answers
has_one : (l : List Event) (j : ℕ) (a : Journey) → journey_at l j ≡ Some a → is_open (phase a.plan (history l j)) ≡ true
    → OneStep a.plan (history l j) (fits l (next_want a.plan (history l j))) → HasOneStep l j
has_one l j a at unfinished s = grind (arith, is_item_allowed-may_do, open-unfinished)

-- in a legal ledger each open journey has one step
pub each_open_has_one : (l : List Event) → IsLegal l → EachOpenJourneyHasOneStep l
each_open_has_one l legal j unfinished = search (arith, has_one, one-step, all_go)

-- nothing may come in a finished history
pub finished-none : (plan : Planned) (h : List Item) (fits : Bool) (item : Item)
    → is_finished (phase plan h) ≡ true → may_come plan h fits item ≡ true → ⊥
finished-none plan h fits item e may = grind (arith, nat_tests)

-- no item is allowed of a finished journey
pub no_finished_goes_on : (l : List Event) → NoFinishedJourneyGoesOn l
no_finished_goes_on l j item finished = grind (arith, is_item_allowed-none, false_from_ne_true, finished-none, is_item_allowed-may_do)
