-- How recovery extends a ledger: events are appended, and the kept replies stay the same.
use Rattle.std.specs.Prelude.{◌≡◌, ℕ, ◌-◌, ◌+◌, ◌≤◌, List, ◌++◌, length}
use Rattle.commands.specs.declared.replies.Fault.{Fault}
use Rattle.commands.specs.declared.replies.Fault.TheVariants.{Memory, Store}
use Rattle.ledger.specs.Answer.{State, most_events}
use Rattle.ledger.specs.Ledger.{Event}

-- the state with these events appended, and the same kept replies
abbrev pub with_events : State → List Event → State
with_events s events = record { ledger = s.ledger ++ events; kept = s.kept }

-- how many more events the ledger may have
abbrev pub room_of : State → ℕ
room_of s = most_events - length s.ledger

-- the book represents the state with some events of this kind appended: so many of them, and no more than it has room
-- for
pub record Grew (stands : State → Type 0) (Are : List Event → Type 0) (s : State) (made : ℕ)
    : Type 0 where
  pub events : List Event
  pub are : Are events
  pub counted : length events ≡ made
  pub within : made ≤ room_of s
  pub stands_there : stands (with_events s events)

-- the same, and the ledger is full
pub record GrewFull (stands : State → Type 0) (Are : List Event → Type 0) (s : State) (made : ℕ)
    : Type 0 where
  pub grew : Grew stands Are s made
  pub full : most_events ≤ length s.ledger + made

-- how many events a command that met this fault may have made
abbrev pub most_kept : Fault → ℕ
most_kept Memory = 0
most_kept Store = 1

-- what is left at a fault: whatever a crash leaves represents one of two states, and out of memory the book represents
-- the first
abbrev pub LeavesAt : Fault → (State → Type 0) → (State → State → Type 0) → State → State → Type 0
LeavesAt Memory stands leaves s t = stands s × leaves s t
LeavesAt Store stands leaves s t = leaves s t

-- whatever a crash leaves is the state with some events of this kind appended, or, if the store failed, possibly with
-- the next one too; and no more events than it has room for
pub record MayHaveGrown (leaves : State → State → Type 0) (Are : List Event → Type 0) (s : State)
    (fault : Fault) : Type 0 where
  pub events : List Event
  pub next : List Event
  pub are : Are events
  pub are_with : Are (events ++ next)
  pub at_most : length next ≤ most_kept fault
  pub within : length (events ++ next) ≤ room_of s
  pub left : leaves (with_events s events) (with_events s (events ++ next))
