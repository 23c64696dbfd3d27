-- How peers came: with which ends, by which door, and in which mode they are read.
use Rattle.std.specs.Prelude.{◌≡◌, List, [], ◌∷◌, All, map}
use Rattle.std.specs.declared.io.traits.Read as Read
use Rattle.std.specs.declared.io.traits.Write as Write
use Rattle.desk_http.specs.declared.doors.Door.{Door}
use Rattle.http_conversations.specs.declared.modes.Mode.{Mode}
use Rattle.http_conversations.specs.Conversations.{history}
use Rattle.http_conversations.specs.Exchanges.{IsAt, IsBy}
use Rattle.http_live.specs.Slots.{connections_at, exchanges_with}
use Rattle.http_live.specs.declared.connection.Connection.{Connection}
use Rattle.http_live.specs.declared.slots.Slot.{Slot}

-- the ends with which a connection came, the door at which its messages come in, and the mode in which they are read
pub record Arrival (R W : Type 0) : Type 0 where
  pub ends : List (R × W)
  pub door : Door
  pub mode : Mode

-- with these two ends, by this door and in this mode
abbrev pub arrival : {R W : Type 0} → R → W → Door → Mode → Arrival R W
arrival reader writer door mode = record { ends = (reader, writer) ∷ []; door = door; mode = mode }

module _ {R W : Type 0} {r : Read.Ghosts R} {w : Write.Ghosts W} where
  abbrev pub arrival_of : Connection R W r w → Arrival R W
  arrival_of c =
      record { ends = c.came.items; door = (history c.conversation).door; mode = (history c.conversation).mode }

  -- those of all connections of a slot, in order
  abbrev pub arrivals_at : Slot R W r w → List (Arrival R W)
  arrivals_at s = map arrival_of (connections_at s)

  -- The reader with which the connection came has the door of the connection. Each of its messages came in at that door.
  pub record IsAtItsDoor (is_at : R → Door → Type 0) (c : Connection R W r w) : Type 0 where
    pub reader : R
    pub writer : W
    pub came : c.came.items ≡ (reader, writer) ∷ []
    pub door : is_at reader (history c.conversation).door
    pub messages : ∥ All (IsAt (history c.conversation).door) (exchanges_with c) ∥₁

  -- so it is with each connection of the slots, also with those that ended
  abbrev pub AreAtTheirDoors : (R → Door → Type 0) → List (Slot R W r w) → Type 0
  AreAtTheirDoors is_at slots = All (λ slot. All (IsAtItsDoor is_at) (connections_at slot)) slots

  -- The reader with which the connection came is read in the mode of the connection. Each of its messages was read in that
  -- mode.
  pub record IsReadInItsMode (is_by : R → Mode → Type 0) (c : Connection R W r w) : Type 0 where
    pub reader : R
    pub writer : W
    pub came : c.came.items ≡ (reader, writer) ∷ []
    pub mode : is_by reader (history c.conversation).mode
    pub messages : ∥ All (IsBy (history c.conversation).mode) (exchanges_with c) ∥₁

  -- so it is with each connection of the slots, also with those that ended
  abbrev pub AreReadInTheirModes : (R → Mode → Type 0) → List (Slot R W r w) → Type 0
  AreReadInTheirModes is_by slots = All (λ slot. All (IsReadInItsMode is_by) (connections_at slot)) slots

  -- The two ends with which the connection came are those of one peer.
  pub record HasBothOfOne (is_pair : R → W → Type 0) (c : Connection R W r w) : Type 0 where
    pub reader : R
    pub writer : W
    pub came : c.came.items ≡ (reader, writer) ∷ []
    pub pair : is_pair reader writer

  -- so it is with each connection of the slots, also with those that ended
  abbrev pub ArePairs : (R → W → Type 0) → List (Slot R W r w) → Type 0
  ArePairs is_pair slots = All (λ slot. All (HasBothOfOne is_pair) (connections_at slot)) slots
