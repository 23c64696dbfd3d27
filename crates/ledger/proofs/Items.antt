-- What one more item changes of where a journey is: its position, its phase, and how many of its steps were refused.
-- For each desk that stores a cursor.
use Rattle.std.proofs.Common.{◌≡◌, ℕ, ◌≤◌, List, [], ◌∷◌, ◌++◌, arith, eqb-true, eq-eqb, Bool, ◌==◌, Some, IsTrue}
use Rattle.std.proofs.lemmas.Bool.{ltb-true, ltb-false, eqb-false, ne_eqb}
use Rattle.plan.specs.PlanModel.{Planned, step_count}
use Rattle.commands.specs.declared.items.Item.{Item}
use Rattle.commands.specs.declared.items.Item.TheVariants.{Transaction, Compensation, Turn, Save}
use Rattle.ledger.specs.History.{net, position_of, phase, going_to, has_turned_to_start, may_come}
use Rattle.ledger.proofs.Coming.{step-comes, compensation-comes}
use Rattle.ledger.proofs.Taking.{going_to-more, turned-other, refusals-more, refusals-other}
use Rattle.ledger.proofs.Modes.{Rising, upward, runs, ended, phase-falling, running-rises, going_back-falls}
use Rattle.ledger.proofs.Standing.{compensates, position_of-transaction, position_of-turn, position_of-save}
use Rattle.ledger.specs.JourneyChanges.{phase_up, phase_down, cursor_after}
use Rattle.ledger.specs.Cursors.{cursor_of}
use Rattle.ledger.proofs.Histories.{Follows}
use Rattle.ledger.proofs.Journeys.{turn-turned, rising-transaction}

-- Phases.

-- on its way up a journey has ended or runs, by its position
phase-up : (plan : Planned) (h : List Item) → Rising plan h
    → phase plan h ≡ phase_up (step_count plan) (position_of h)
phase-up plan h r = grind (arith, upward, runs, ne_eqb, ended, eq-eqb)

-- the phase of a journey below its last step whose target is p, and which has not turned to the start before
phase-going : (plan : Planned) (h : List Item) (p : ℕ) → (position_of h ≡ step_count plan → ⊥)
    → has_turned_to_start h ≡ (0 == p) → going_to h ≡ Some p
    → phase plan h ≡ phase_down p (position_of h)
phase-going plan h p short turned going = grind (arith, ne_eqb, ltb-true, eq-eqb, ltb-false, eqb-true, eqb-false)

-- Cursors.

-- the compensation of the last transaction takes the cursor one step back
cursor_of-compensation : (plan : Planned) (h : List Item) (may_fit : Bool) (i c : ℕ)
    → Follows plan h
    → IsTrue (may_come plan h may_fit (Compensation i c))
    → cursor_of plan (h ++ Compensation i c ∷ [])
    ≡ cursor_after plan (cursor_of plan h) (Compensation i c)
cursor_of-compensation plan h may_fit i c f may =
    let comes = compensation-comes plan h may_fit i c may in
    let way = going_back-falls plan h f.goes.mode comes.back in
    let done = compensates h i c f.stands comes.last in
    let going = phase-going plan (h ++ Compensation i c ∷ []) way.target in
    grind (arith, turned-other, going_to-more, phase-falling plan h way, refusals-other)

-- after each item that may come the journey is where the rule says
pub cursor_of-more : (plan : Planned) (h : List Item) (may_fit : Bool) (x : Item) → Follows plan h
    → IsTrue (may_come plan h may_fit x)
    → cursor_of plan (h ++ x ∷ []) ≡ cursor_after plan (cursor_of plan h) x
cursor_of-more plan h may_fit (Transaction i c) f may =
    grind (arith, step-comes, running-rises, position_of-transaction, phase-up, rising-transaction, refusals-other)
cursor_of-more plan h may_fit (Compensation i c) f may = search (arith, cursor_of-compensation)
cursor_of-more plan h may_fit (Turn p cause) f may =
    grind (arith, position_of-turn, turn-turned, phase-going, going_to-more, refusals-other, refusals-more)
cursor_of-more plan h may_fit (Save p) f may =
    grind (arith, position_of-save, turned-other, going_to-more, refusals-other)

-- What stands.

-- the step that is compensated is that of the position
pub compensation-step : (plan : Planned) (h : List Item) (may_fit : Bool) (i c : ℕ) → Follows plan h
    → IsTrue (may_come plan h may_fit (Compensation i c)) → i ≡ position_of h
compensation-step plan h may_fit i c f may =
    (compensates h i c f.stands (compensation-comes plan h may_fit i c may).last).is_last

-- a journey that compensates was above its start
pub compensation_above : (plan : Planned) (h : List Item) (may_fit : Bool) (i c : ℕ)
    → Follows plan h
    → IsTrue (may_come plan h may_fit (Compensation i c)) → 1 ≤ position_of h
compensation_above plan h may_fit i c f may = grind (arith, compensates, compensation-comes)

-- a compensation removes the last transaction that stands, and no other
pub net-compensation : (plan : Planned) (h : List Item) (may_fit : Bool) (i c : ℕ) → Follows plan h
    → IsTrue (may_come plan h may_fit (Compensation i c))
    → net h ≡ net (h ++ Compensation i c ∷ []) ++ (i, c) ∷ []
net-compensation plan h may_fit i c f may =
    (compensates h i c f.stands (compensation-comes plan h may_fit i c may).last).left
