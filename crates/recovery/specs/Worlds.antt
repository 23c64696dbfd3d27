-- How an execution continues with recovery: the requests by which the house recovers a desk, each of them answered, and
-- perhaps a last one that was cut off where the store failed.
use Rattle.std.specs.Prelude.{◌≡◌, ◌≤◌, List, ◌++◌, map, length, Option, None}
use Rattle.commands.specs.Asks.{Asked}
use Rattle.commands.specs.Request.{Request, Step, Stop}
use Rattle.commands.specs.declared.replies.Fault.{Fault}
use Rattle.commands.specs.declared.items.Cause.TheVariants as cause
use Rattle.commands.specs.declared.items.Item.TheVariants.{Turn}
use Rattle.ledger.specs.Answer.{State, start}
use Rattle.ledger.specs.Ledger.{Event, Did}
use Rattle.ledger.specs.Recovery.{journey_of}
use Rattle.ledger.specs.World.{Moment, after, events_of}
use Rattle.saga_core.specs.Runs.{Asks}
use Rattle.saga_core.specs.Worlds.{dones, StandsAtEnd, EndsWith, EndsAmong, is_store}
use Rattle.recovery.specs.Growing.{most_kept}
use Rattle.recovery.specs.Recovers.{IsRecovery, AreBeginning}

-- the request by which recovery makes this event: a stop makes the turns whose cause is a stop, and a step makes all
-- others
abbrev pub request_making : Event → Request
request_making (Did j (Turn p cause.Stop)) = Stop j
request_making e = Step (journey_of e)

-- the same request, from the house
abbrev pub order_of : Event → Request × Option Asked
order_of e = (request_making e, None)

-- the requests of the house that make recovery's events
abbrev pub orders_of : List Event → Asks
orders_of events = map order_of events

-- these requests, each answered after that execution, make just these events
abbrev pub Make : List Moment → List Event → Type 0
Make w events = events_of (after start w) (dones (after start w) (orders_of events)) ≡ events

-- the execution continues with the requests that recover its desk, each of them answered
pub record EndsRecovered (stands : State → Type 0) (leaves : State → State → Type 0) (w : List Moment) : Type 0 where
  pub events : List Event
  pub is : IsRecovery (after start w) events
  pub made : Make w events
  pub ends : EndsWith stands leaves w (orders_of events)

-- every execution at whose end the book stood continues so
abbrev pub GoesOnRecovered : (State → Type 0) → (State → Type 0) → (State → State → Type 0) → Type 0
GoesOnRecovered stood stands leaves = (w : List Moment) → StandsAtEnd stood w → EndsRecovered stands leaves w

-- the events of recovery are those that were made, at most one that was in progress where the store failed, and the
-- later ones; and the execution continues with a prefix of the requests that make them
pub record EndsRecovering (stands : State → Type 0) (leaves : State → State → Type 0) (w : List Moment)
    (fault : Fault) : Type 0 where
  pub events : List Event
  pub next : List Event
  pub later : List Event
  pub is : IsRecovery (after start w) (events ++ next ++ later)
  pub are : AreBeginning (after start w).ledger events
  pub are_with : AreBeginning (after start w).ledger (events ++ next)
  pub at_most : length next ≤ most_kept fault
  pub made : Make w events
  pub among : EndsAmong stands leaves w (orders_of (events ++ next ++ later)) (is_store fault)
  pub answered : among.progress.answered ≡ orders_of events
  pub under_way : among.progress.under_way ≡ orders_of next

-- every execution at whose end the book stood continues so
abbrev pub GoesOnRecovering : (State → Type 0) → (State → Type 0) → (State → State → Type 0) → Fault → Type 0
GoesOnRecovering stood stands leaves fault =
    (w : List Moment) → StandsAtEnd stood w → EndsRecovering stands leaves w fault
