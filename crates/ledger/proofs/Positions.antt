-- The position and the last standing step of a journey, by its phase. For each desk that stores a cursor.
use Rattle.std.proofs.Common.{◌≡◌, ℕ, ◌<◌, List, ap, ◌∙◌, arith, Some}
use Rattle.plan.specs.PlanModel.{Planned, step_count}
use Rattle.commands.specs.declared.items.Item.{Item}
use Rattle.commands.specs.declared.items.Phase.TheVariants.{Run, Back}
use Rattle.ledger.specs.History.{net, position_of, phase, is_running, last_of}
use Rattle.ledger.proofs.Lists.{last_of-some}
use Rattle.ledger.proofs.Modes.{phase-falling, running-rises, going_back-falls}
use Rattle.ledger.proofs.Standing.{compensates}
use Rattle.ledger.proofs.Histories.{Follows}

-- a running journey is below its last step
pub running_below : (plan : Planned) (h : List Item) → Follows plan h → phase plan h ≡ Run
    → position_of h < step_count plan
running_below plan h f run = (running-rises plan h f.goes.mode (ap is_running run)).1

-- a journey that goes back is above its target, and below its last step
pub back_above : (plan : Planned) (h : List Item) (p : ℕ) → Follows plan h → phase plan h ≡ Back p
    → (p < position_of h) × (position_of h < step_count plan)
back_above plan h p f back = grind (arith, going_back-falls, phase-falling)

-- above the start the last transaction that stands is that of the position
pub last_standing : (plan : Planned) (h : List Item) → Follows plan h → 0 < position_of h
    → (c : ℕ) × (last_of (net h) ≡ Some (position_of h, c))
last_standing plan h f above =
    let last = last_of-some (net h) above in
    (last.0.1, last.1 ∙ ap (λ n. Some (n, last.0.1)) ((compensates h last.0.0 last.0.1 f.stands last.1).is_last))
