-- Worlds: histories of requests, stops and reopenings. The state of the desk after one, the events that it made, and
-- how often a key acted.
use Rattle.std.specs.Prelude.{◌≡◌, ℕ, ◌+◌, ◌&&◌, Bool, true, false, List, [], ◌∷◌, ◌++◌, if◌then◌else◌, Option, is_some, option_to_list, option_map, unwrap_or, bytes_eq, IsTrue}
use Rattle.commands.specs.Asks.{Asked}
use Rattle.ledger.specs.Ledger.{Event}
use Rattle.ledger.specs.Answer.{State, start, outcome, is_request}
use Rattle.commands.specs.Request.{Request}
use Rattle.commands.specs.declared.replies.Reply.{Reply}

-- a request that was answered, a request that a stop cut off, and a reopening
pub data Moment : Type 0 where
  Done : (asked : Request) (ask : Option Asked) (reply : Reply) → Moment
  -- the event and the kept reply of the request were both kept, or neither was
  Cut : (asked : Request) (ask : Option Asked) (was_kept : Bool) → Moment
  Reopened : Moment

-- the next of these, if any, is a reopening
abbrev pub is_reopened : List Moment → Bool
is_reopened [] = true
is_reopened (Reopened ∷ later) = true
is_reopened _ = false

-- the state of the desk after these
abbrev pub after : State → List Moment → State
after s [] = s
after s (Done asked ask reply ∷ later) = after (outcome s ask asked).state later
after s (Cut asked ask true ∷ later) = after (outcome s ask asked).state later
after s (Cut asked ask false ∷ later) = after s later
after s (Reopened ∷ later) = after s later

-- a request that makes an event keeps the limits
abbrev pub KeepsLimits : State → Option Asked → Request → Type 0
KeepsLimits s ask asked = IsTrue (is_some (outcome s ask asked).event) → IsTrue (is_request asked)

-- from this state on each reply is the right one, and after a stop comes a reopening
abbrev pub GoesOn : State → List Moment → Type 0
GoesOn s [] = Unit {0}
GoesOn s (Done asked ask reply ∷ later) =
    KeepsLimits s ask asked × (reply ≡ (outcome s ask asked).reply)
    × GoesOn (outcome s ask asked).state later
GoesOn s (Cut asked ask true ∷ later) =
    KeepsLimits s ask asked × IsTrue (is_reopened later)
    × GoesOn (outcome s ask asked).state later
GoesOn s (Cut asked ask false ∷ later) =
    KeepsLimits s ask asked × IsTrue (is_reopened later) × GoesOn s later
GoesOn s (Reopened ∷ later) = GoesOn s later

-- a world, an execution: all that came to a new desk
abbrev pub IsWorld : List Moment → Type 0
IsWorld w = GoesOn start w

-- the event that a request makes, if it makes one
abbrev pub event_of : State → Option Asked → Request → List Event
event_of s ask asked = option_to_list (outcome s ask asked).event

-- the events that these made, in order
abbrev pub events_of : State → List Moment → List Event
events_of s [] = []
events_of s (Done asked ask reply ∷ later) =
    event_of s ask asked ++ events_of (outcome s ask asked).state later
events_of s (Cut asked ask true ∷ later) =
    event_of s ask asked ++ events_of (outcome s ask asked).state later
events_of s (Cut asked ask false ∷ later) = events_of s later
events_of s (Reopened ∷ later) = events_of s later

-- the ask has this agent and this key
abbrev pub is_under : List ℕ → List ℕ → Option Asked → Bool
is_under agent key ask =
    unwrap_or (option_map (λ (a : Asked). bytes_eq agent a.agent && bytes_eq key a.key) ask) false

-- 1 where a request under this agent and key makes an event, else 0
abbrev pub acts : List ℕ → List ℕ → State → Option Asked → Request → ℕ
acts agent key s ask asked =
    if is_under agent key ask && is_some (outcome s ask asked).event then 1 else 0

-- how many of these, under that agent and key, made an event
abbrev pub times_acted : List ℕ → List ℕ → State → List Moment → ℕ
times_acted agent key s [] = 0
times_acted agent key s (Done asked ask reply ∷ later) =
    acts agent key s ask asked + times_acted agent key (outcome s ask asked).state later
times_acted agent key s (Cut asked ask true ∷ later) =
    acts agent key s ask asked + times_acted agent key (outcome s ask asked).state later
times_acted agent key s (Cut asked ask false ∷ later) = times_acted agent key s later
times_acted agent key s (Reopened ∷ later) = times_acted agent key s later
