-- The continuation of a journey by its items.
use Rattle.std.specs.Prelude.{◌≡◌, ◌-◌, ◌==◌, ◌&&◌, ℕ, Bool, false, List, ◌++◌}
use Rattle.commands.specs.declared.items.Item.{Item}
use Rattle.commands.specs.declared.items.Item.TheVariants.{Transaction, Compensation, Turn, Save}
use Rattle.ledger.specs.History.{position_of}
use Rattle.ledger.specs.Ledger.{Event, history, IsLegal}
use Rattle.sql_reads.specs.ItemSearch.{HasSteps}

-- in a legal ledger, a journey with so many steps came to this position, and went on with these items and no more
pub record GoesOnWith (steps pos : ℕ) (items : List Item) : Type 0 where
  pub ledger : List Event
  pub legal : IsLegal ledger
  pub id : ℕ
  pub has_steps : HasSteps ledger id steps
  pub before : List Item
  pub stands : position_of before ≡ pos
  pub whole : history ledger id ≡ before ++ items

-- the position after an item, from that before it
abbrev pub next_position : ℕ → Item → ℕ
next_position pos (Transaction i c) = i
next_position pos (Compensation i c) = i - 1
next_position pos (Turn p cause) = pos
next_position pos (Save p) = pos

-- whether an item finishes a journey of so many steps, which is at this position before it
abbrev pub finishes : ℕ → ℕ → Item → Bool
finishes steps pos (Transaction i c) = i == steps
finishes steps pos (Compensation i c) = i == 1
finishes steps pos (Turn p cause) = (p == 0) && (pos == 0)
finishes steps pos (Save p) = false
