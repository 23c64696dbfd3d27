-- What the rules of a legal ledger leave open, and a desk keeps all the same.
use Rattle.std.specs.Prelude.{ℕ, ◌≤◌, List, length, IfSome, IsTrue}
use Rattle.commands.specs.Names.{is_agent}
use Rattle.ledger.specs.Answer.{most_events}
use Rattle.ledger.specs.Ledger.{Event, Journey, journey_at}

-- each agent of the ledger has the form of one, and there are no more events than a ledger may have
pub record IsSpelled (l : List Event) : Type 0 where
  pub agents : (id : ℕ) → IfSome (journey_at l id) (λ (a : Journey). IsTrue (is_agent a.agent))
  pub few : length l ≤ most_events
