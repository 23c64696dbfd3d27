-- A worked example of recovery's commands, computed by the definitions.
use Rattle.std.specs.Prelude.{◌≡◌, suc, List, [], ◌∷◌, ◌++◌, length, None, refl}
use Rattle.std.proofs.lemmas.Bool.{leb-true}
use Rattle.commands.specs.Request.{Step, Stop}
use Rattle.ledger.specs.Answer.{State, start}
use Rattle.ledger.specs.Examples.{done, undone}
use Rattle.ledger.specs.Ledger.{Event, Did, IsLegal}
use Rattle.ledger.specs.RecoveryExamples.{allowed_by_test, two_want_one_room, both_turn_back, second_journey_goes_back_before_the_first_goes_on}
use Rattle.ledger.specs.World.{events_of}
use Rattle.saga_core.specs.Runs.{Asks}
use Rattle.saga_core.specs.Worlds.{dones}
use Rattle.recovery.specs.Growing.{room_of}
use Rattle.recovery.specs.Reasons.{MayRecover}
use Rattle.recovery.specs.Recovers.{IsRecovery}
use Rattle.recovery.specs.Worlds.{orders_of}

-- two journeys want one room: both turn back, the second gives the room back, and the first takes it
abbrev pub room_changes_hands : List Event
room_changes_hands = both_turn_back ++ Did 2 (undone 1) ∷ Did 1 (done 2) ∷ []

-- the house sends two stops and two steps
pub two_stops_and_two_steps :
    orders_of room_changes_hands
    ≡ (Stop 1, None) ∷ (Stop 2, None) ∷ (Step 2, None) ∷ (Step 1, None) ∷ []
two_stops_and_two_steps = refl

-- the state of the desk before recovery
abbrev pub room_is_wanted_twice : State
room_is_wanted_twice = record { ledger = two_want_one_room; kept = start.kept }

-- these commands make the events, one by one
pub commands_make_their_events :
    events_of room_is_wanted_twice (dones room_is_wanted_twice (orders_of room_changes_hands))
    ≡ room_changes_hands
commands_make_their_events = refl

-- these events are its recovery
pub room_is_recovered : IsRecovery room_is_wanted_twice room_changes_hands
room_is_recovered = record {
  are = record {
    recovered = two_want_one_room ++ room_changes_hands;
    is_recovered = second_journey_goes_back_before_the_first_goes_on;
    rest = [];
    beginning = refl;
    whole = λ _. refl;
    cut_off = λ _. refl;
  };
  within = leb-true (length room_changes_hands) (room_of room_is_wanted_twice) refl;
}

-- its ledger is legal
pub room_ledger_is_legal : IsLegal room_is_wanted_twice.ledger
room_ledger_is_legal = allowed_by_test [] two_want_one_room refl

-- a book that may recover this desk may act for these commands, and for one more
pub may_send_two_stops_and_two_steps :
    (stands : State → Type 0) (can : State → Asks → Type 0) → MayRecover stands can [] room_is_wanted_twice
    → can room_is_wanted_twice (orders_of room_changes_hands)
may_send_two_stops_and_two_steps stands can may =
    may.moves (orders_of room_changes_hands) ((tt, refl), ((tt, refl), ((tt, refl), ((tt, refl), tt))))
    (leb-true (length (orders_of room_changes_hands)) (suc (room_of room_is_wanted_twice)) refl)
