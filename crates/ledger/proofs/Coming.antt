-- What each item requires to come next, and that it may then come. For journeys, places and steps.
use Rattle.std.proofs.Common.{◌≡◌, ℕ, ◌+◌, List, arith, Bool, true, false, not, Some}
use Rattle.std.proofs.lemmas.Bool.Decides.{nat_tests}
use Rattle.plan.specs.PlanModel.{Planned}
use Rattle.commands.specs.declared.items.Cause.TheVariants.{Stop, Refused}
use Rattle.commands.specs.declared.items.Item.{Item}
use Rattle.commands.specs.declared.items.Item.TheVariants.{Transaction, Compensation, Turn, Save}
use Rattle.ledger.specs.History.{net, position_of, last_save, refused_target, phase, is_running, is_going_back, may_come, last_of, next_option}

-- a transaction comes where the journey runs, with the next step and option, where that want fits
pub record StepComes (plan : Planned) (h : List Item) (fits : Bool) (i c : ℕ) : Type 0 where
  pub running : is_running (phase plan h) ≡ true
  pub step : i ≡ position_of h + 1
  pub option : c ≡ next_option plan h
  pub fitting : fits ≡ true

-- if the rule lets it come, each condition of a transaction holds
pub step-comes : (plan : Planned) (h : List Item) (fits : Bool) (i c : ℕ)
    → may_come plan h fits (Transaction i c) ≡ true → StepComes plan h fits i c
step-comes plan h fits i c may = grind (arith, nat_tests)

-- if these conditions hold, the rule lets the transaction come
pub step-may_come : (plan : Planned) (h : List Item) (fits : Bool)
    → is_running (phase plan h) ≡ true → fits ≡ true
    → may_come plan h fits (Transaction (position_of h + 1) (next_option plan h)) ≡ true
step-may_come plan h fits run fitting = grind (arith, nat_tests)

-- a compensation comes where the journey goes back: that of the last transaction that stands
pub record CompensationComes (plan : Planned) (h : List Item) (i c : ℕ) : Type 0 where
  pub back : is_going_back (phase plan h) ≡ true
  pub last : last_of (net h) ≡ Some (i, c)

-- if the rule lets it come, each condition of a compensation holds
pub compensation-comes : (plan : Planned) (h : List Item) (fits : Bool) (i c : ℕ)
    → may_come plan h fits (Compensation i c) ≡ true → CompensationComes plan h i c
compensation-comes plan h fits i c may = grind (arith, nat_tests)

-- if these conditions hold, the rule lets the compensation come
pub compensation-may_come : (plan : Planned) (h : List Item) (fits : Bool) (i c : ℕ)
    → is_going_back (phase plan h) ≡ true → last_of (net h) ≡ Some (i, c)
    → may_come plan h fits (Compensation i c) ≡ true
compensation-may_come plan h fits i c back last = grind (arith, nat_tests)

-- a stop comes where the journey runs, to the last save-point
pub stop-comes : (plan : Planned) (h : List Item) (fits : Bool) (p : ℕ)
    → may_come plan h fits (Turn p Stop) ≡ true
    → (is_running (phase plan h) ≡ true) × (p ≡ last_save plan h)
stop-comes plan h fits p may = grind (arith, nat_tests)

-- a refused turn comes where the journey runs and the next want does not fit
pub record RefusedComes (plan : Planned) (h : List Item) (fits : Bool) (p : ℕ) : Type 0 where
  pub running : is_running (phase plan h) ≡ true
  pub unfitting : not fits ≡ true
  pub target : p ≡ refused_target plan h

-- if the rule lets it come, each condition of a refused turn holds
pub refused-comes : (plan : Planned) (h : List Item) (fits : Bool) (p : ℕ)
    → may_come plan h fits (Turn p Refused) ≡ true → RefusedComes plan h fits p
refused-comes plan h fits p may = grind (arith, nat_tests)

-- if the journey runs and its want does not fit, the rule lets the refused turn come
pub refused-may_come : (plan : Planned) (h : List Item) (fits : Bool)
    → is_running (phase plan h) ≡ true → fits ≡ false
    → may_come plan h fits (Turn (refused_target plan h) Refused) ≡ true
refused-may_come plan h fits run unfitting = grind (arith, nat_tests)

-- a save-point is taken where the journey runs
pub save-comes : (plan : Planned) (h : List Item) (fits : Bool) (p : ℕ)
    → may_come plan h fits (Save p) ≡ true → is_running (phase plan h) ≡ true
save-comes plan h fits p may = grind (arith, nat_tests)
