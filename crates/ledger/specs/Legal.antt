-- The histories that journeys of legal ledgers have.
use Rattle.std.specs.Prelude.{◌≡◌, ℕ, List, Some}
use Rattle.plan.specs.PlanModel.{Planned}
use Rattle.commands.specs.declared.items.Item.{Item}
use Rattle.ledger.specs.Ledger.{Event, Journey, journey_at, history, IsLegal}

-- some journey of a legal ledger has this plan and this history
pub record HasHistory (plan : Planned) (h : List Item) : Type 0 where
  pub ledger : List Event
  pub number : ℕ
  pub journey : Journey
  pub legal : IsLegal ledger
  pub at : journey_at ledger number ≡ Some journey
  pub planned : journey.plan ≡ plan
  pub past : history ledger number ≡ h
