-- The exchanges of a slot.
use Rattle.std.specs.Prelude.{◌≡◌, ℕ, true, List, [], ◌++◌, map, Option, Some, None, option_to_list}
use Rattle.std.specs.List.{Any, flat_map}
use Rattle.std.specs.declared.io.traits.Read as Read
use Rattle.std.specs.declared.io.traits.Write as Write
use Rattle.desk_http.specs.declared.doors.Door.{Door}
use Rattle.http_conversations.specs.declared.modes.Mode.{Mode}
use Rattle.http_conversations.specs.Conversations.{history}
use Rattle.http_conversations.specs.Worlds.{Exchange}
use Rattle.http_live.specs.declared.connection.Connection.{Connection}
use Rattle.http_live.specs.declared.slots.Slot.{Slot}

module _ {R W : Type 0} {r : Read.Ghosts R} {w : Write.Ghosts W} where
  -- those of a connection
  abbrev pub exchanges_with : Connection R W r w → List Exchange
  exchanges_with c = (history c.conversation).exchanges

  abbrev pub exchanges_now : Option (Connection R W r w) → List Exchange
  exchanges_now None = []
  exchanges_now (Some c) = exchanges_with c

  -- there is one, whose messages come in at this door, and are read in this mode
  abbrev pub HasDoor : Door → Mode → Option (Connection R W r w) → Type 0
  HasDoor door mode None = ⊥
  HasDoor door mode (Some c) =
      ((history c.conversation).door ≡ door) × ((history c.conversation).mode ≡ mode)

  -- the message that was answered last asked the desk to stop
  abbrev pub HasStop : Option (Connection R W r w) → Type 0
  HasStop None = ⊥
  HasStop (Some c) = (history c.conversation).stops ≡ true

  abbrev pub HasStopAt : Slot R W r w → Type 0
  HasStopAt s = HasStop s.connection

  -- some slot has such a connection
  abbrev pub HasStopAmong : List (Slot R W r w) → Type 0
  HasStopAmong slots = Any HasStopAt slots

  -- the connections that ended, and the one that is there
  abbrev pub connections_at : Slot R W r w → List (Connection R W r w)
  connections_at s = map (λ e. e.0) s.left.items ++ option_to_list s.connection

  -- those of the connections that ended
  abbrev pub exchanges_before : Slot R W r w → List Exchange
  exchanges_before s = flat_map (λ e. exchanges_with e.0) s.left.items

  -- and of the one that is there
  abbrev pub exchanges_at : Slot R W r w → List Exchange
  exchanges_at s = exchanges_before s ++ exchanges_now s.connection

  -- what a connection received
  abbrev pub received_with : Connection R W r w → List ℕ
  received_with c = (history c.conversation).received

  -- what each connection of a slot received, in order
  abbrev pub received_at : Slot R W r w → List (List ℕ)
  received_at s = map received_with (connections_at s)

  -- what waits to go out
  abbrev pub pending_now : Option (Connection R W r w) → List ℕ
  pending_now None = []
  pending_now (Some c) = (history c.conversation).pending

  abbrev pub pending_at : Slot R W r w → List ℕ
  pending_at s = pending_now s.connection
