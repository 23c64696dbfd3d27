-- What is kept of a journey beside its items. For the journeys of a book in memory.
use Rattle.std.proofs.Common.{◌≡◌, false, [], ap, arith, ◌==◌, if◌then◌else◌, IsTrue}
use Rattle.std.proofs.lemmas.Grind.{common_steps}
use Rattle.plan.specs.PlanModel.{Planned, is_plan, step_count}
use Rattle.commands.specs.declared.items.Phase.TheVariants.{Run, Ended}
use Rattle.ledger.specs.History.{phase}

-- a plan has a step
at_least_one : (plan : Planned) → IsTrue (is_plan plan) → (0 == step_count plan) ≡ false
at_least_one plan good = grind (arith, common_steps)

-- a journey that was just begun is running
pub phase-begun : (plan : Planned) → IsTrue (is_plan plan) → phase plan [] ≡ Run
phase-begun plan good = ap (λ ended. if ended then Ended else Run) (at_least_one plan good)
