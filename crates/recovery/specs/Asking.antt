-- What one command of recovery does to a book.
use Rattle.std.specs.Prelude.{◌≡◌, ℕ, ◌<◌, ◌≤◌, Bool, true, false, List, [], ◌∷◌, ◌++◌, length, Option, Some, None, IsTrue}
use Rattle.commands.specs.declared.replies.Fault.{Fault}
use Rattle.commands.specs.declared.items.Item.{Item}
use Rattle.commands.specs.declared.items.Item.TheVariants.{Turn}
use Rattle.commands.specs.declared.items.Cause.TheVariants.{Stop}
use Rattle.commands.specs.declared.items.Phase.{Phase}
use Rattle.commands.specs.declared.replies.Reply.{Reply}
use Rattle.commands.specs.declared.replies.Reply.TheVariants as reply
use Rattle.ledger.specs.Answer.{State, most_events}
use Rattle.ledger.specs.History.{is_running, is_open}
use Rattle.ledger.specs.Ledger.{Event, Did, is_in, is_item_allowed, phase_of}
use Rattle.ledger.specs.Recovery.{last_save_of, is_forward}
use Rattle.recovery.specs.Growing.{with_events, MayHaveGrown}

-- the phase that a reply reports, if a journey moved
abbrev pub phase_told : Reply → Option Phase
phase_told (reply.Moved j item pos phase) = Some phase
phase_told _ = None

-- the turn of a journey to its last save-point
abbrev pub stop_of : List Event → ℕ → Event
stop_of l j = Did j (Turn (last_save_of l j) Stop)

-- the book represents the state with this event appended; or the ledger is full and the book represents the same state
abbrev pub Adds : (State → Type 0) → State → Event → Bool → Type 0
Adds stands s event true = (length s.ledger < most_events) × stands (with_events s (event ∷ []))
Adds stands s event false = (most_events ≤ length s.ledger) × stands s

-- a running journey turns to its last save-point, or the ledger is full
abbrev pub Stops : (State → Type 0) → (State → Type 0) → ℕ → Bool → Type 0
Stops stood stands j made = (s : State) → stood s → IsTrue (is_in is_running s.ledger j)
    → Adds stands s (stop_of s.ledger j) made

-- no event, or just this one
pub data IsAtMost (event : Event) : List Event → Type 0 where
  none : IsAtMost event []
  one : IsAtMost event (event ∷ [])

-- whatever a crash leaves, a running journey has turned to its last save-point, or nothing changed
abbrev pub StopsOrNot : (State → Type 0) → (State → State → Type 0) → ℕ → Fault → Type 0
StopsOrNot stood left j fault = (s : State) → stood s → IsTrue (is_in is_running s.ledger j)
    → MayHaveGrown left (IsAtMost (stop_of s.ledger j)) s fault

-- journey j made one step, and is then in this phase
pub record Stepped (stands : State → Type 0) (s : State) (j : ℕ) (phase : Phase) : Type 0 where
  pub item : Item
  pub forward : IsTrue (is_forward item)
  pub allowed : IsTrue (is_item_allowed s.ledger j item)
  pub comes_to : phase_of (s.ledger ++ Did j item ∷ []) j ≡ Some phase
  pub room : length s.ledger < most_events
  pub stands_there : stands (with_events s (Did j item ∷ []))

-- the journey made one step and is then in the reported phase, or the ledger is full and nothing changed
abbrev pub SteppedTo : (State → Type 0) → State → ℕ → Option Phase → Type 0
SteppedTo stands s j (Some phase) = Stepped stands s j phase
SteppedTo stands s j None = (most_events ≤ length s.ledger) × stands s

-- an open journey makes one step, or the ledger is full
abbrev pub Steps : (State → Type 0) → (State → Type 0) → ℕ → Option Phase → Type 0
Steps stood stands j phase = (s : State) → stood s → IsTrue (is_in is_open s.ledger j)
    → SteppedTo stands s j phase

-- no event, or one step that may come next in journey j
pub data IsStepOrNone (l : List Event) (j : ℕ) : List Event → Type 0 where
  stays : IsStepOrNone l j []
  goes : (item : Item) → IsTrue (is_forward item) → IsTrue (is_item_allowed l j item)
      → IsStepOrNone l j (Did j item ∷ [])

-- whatever a crash leaves, an open journey has made one step, or nothing changed
abbrev pub StepsOrNot : (State → Type 0) → (State → State → Type 0) → ℕ → Fault → Type 0
StepsOrNot stood left j fault = (s : State) → stood s → IsTrue (is_in is_open s.ledger j)
    → MayHaveGrown left (IsStepOrNone s.ledger j) s fault
