-- What a call leaves of a connection, of a slot, and of all slots.
use Rattle.std.specs.Prelude.{◌≡◌, ◌⊎◌, ℕ, ◌<◌, ◌≤◌, Bool, true, false, List, [], ◌∷◌, ◌++◌, length, map, None, Result, Ok, IfErr, IfOk, IfSome, OnErr, slice_index_or, slice_set}
use Rattle.std.specs.declared.io.traits.Read as Read
use Rattle.std.specs.declared.io.traits.Write as Write
use Rattle.ledger.specs.Answer.{State}
use Rattle.saga_core.specs.Runs.{Asks}
use Rattle.commands.specs.declared.replies.Fault.{Fault}
use Rattle.commands.specs.declared.replies.Fault.TheVariants.{Store}
use Rattle.desk_http.specs.declared.doors.Door.{Door}
use Rattle.http_conversations.specs.declared.modes.Mode.{Mode}
use Rattle.http_conversations.specs.Conversations.{history}
use Rattle.http_conversations.specs.History.{History}
use Rattle.http_conversations.specs.Leading.{GoesOnByOne, has_broken}
use Rattle.http_conversations.specs.Worlds.{Exchange}
use Rattle.http_live.specs.Arrivals.{AreAtTheirDoors, ArePairs, AreReadInTheirModes, arrival, arrival_of, arrivals_at}
use Rattle.http_live.specs.Endings.{turn_stops}
use Rattle.http_live.specs.Gains.{Gains, is_answer}
use Rattle.http_live.specs.Merging.{Merges, Slotted}
use Rattle.http_live.specs.Resting.{Rests}
use Rattle.http_live.specs.Slots.{HasDoor, HasStopAmong, HasStopAt, connections_at, exchanges_at, exchanges_with, pending_at, received_at, received_with}
use Rattle.http_live.specs.declared.connection.Connection.{Connection}
use Rattle.http_live.specs.declared.slots.Slot.{Slot}
use Rattle.http_live.specs.declared.slots.Standing.{Standing}
use Rattle.http_live.specs.declared.slots.Standing.TheVariants.{Stopped}

-- A turn: a connection went on by one message at most, which leads the book on, and ended its turn so. The page waits, or was lost.
pub record GoesOn {B : Type 0} (is_sound : B → Type 0) (stands : B → State → Type 0) (leaves : B → State → State → Type 0)
    (may : B → B → State → Asks → Type 0) (reason : B → B → State → State → Type 0) (from to : B)
    (result : Result Standing Fault) (Ends : Type 0) (pending : List ℕ) (before after : List Exchange) : Type 0 where
  pub turn : GoesOnByOne is_sound stands leaves may reason from to (has_broken result) (turn_stops result) before after
  pub ends : Ends
  pub gains : IfOk result (λ standing. Gains standing pending before after)

module _ {R W : Type 0} {r : Read.Ghosts R} {w : Write.Ghosts W} where
  -- Of a connection.

  -- One read: no message was answered, it is the one that came, and what goes out is the same. At a fault nothing changed.
  pub record ReadsOnce {E : Type 0} (result : Result ℕ E) (old new : Connection R W r w) : Type 0 where
    pub kept : exchanges_with new ≡ exchanges_with old
    pub arrival : arrival_of new ≡ arrival_of old
    pub unsent : (history new.conversation).pending ≡ (history old.conversation).pending
    pub err : OnErr result (history new.conversation ≡ history old.conversation)

  -- no message was answered, it is the one that came, and nothing was read
  pub record IsUnread (old new : Connection R W r w) : Type 0 where
    pub kept : exchanges_with new ≡ exchanges_with old
    pub arrival : arrival_of new ≡ arrival_of old
    pub unread : received_with new ≡ received_with old

  -- A step that answers no message. Where it begins so, the connection then waits as its standing says.
  pub record StepsOn (begins : History → Type 0) (standing : Standing) (old new : Connection R W r w) : Type 0 where
    pub kept : exchanges_with new ≡ exchanges_with old
    pub arrival : arrival_of new ≡ arrival_of old
    pub rests : begins (history old.conversation) → Rests standing (history new.conversation)
    pub unanswered : is_answer standing ≡ false

  -- A turn has ended: the connection waits as its standing says, and is the one that came; only the store fails.
  pub record EndsTurn (result : Result Standing Fault) (old new : Connection R W r w) : Type 0 where
    pub rests : IfOk result (λ standing. Rests standing (history new.conversation))
    pub arrival : arrival_of new ≡ arrival_of old
    pub broken : IfErr result (λ fault. fault ≡ Store)

  -- Of a slot.

  -- no connection was here
  pub record IsEmpty (slot : Slot R W r w) : Type 0 where
    pub none : exchanges_at slot ≡ []
    pub empty : connections_at slot ≡ []

  -- no message was answered, nobody came, and nothing was read
  pub record IsLeft (old new : Slot R W r w) : Type 0 where
    pub kept : exchanges_at new ≡ exchanges_at old
    pub arrivals : arrivals_at new ≡ arrivals_at old
    pub unread : received_at new ≡ received_at old

  -- A turn has ended: the connection, if there is one, waits as its standing says; nobody came; where the answer is that the
  -- house asked the desk to stop, it did; only the store fails.
  pub record EndsTurnAt (result : Result Standing Fault) (old new : Slot R W r w) : Type 0 where
    pub rests : IfOk result
        (λ standing. IfSome new.connection (λ connection. Rests standing (history connection.conversation)))
    pub arrivals : arrivals_at new ≡ arrivals_at old
    pub stopped : result ≡ Ok Stopped → HasStopAt new
    pub broken : IfErr result (λ fault. fault ≡ Store)

  -- a peer took the slot with these ends, by this door and in this mode
  pub record IsTakenBy (reader : R) (writer : W) (door : Door) (mode : Mode) (old new : Slot R W r w) : Type 0 where
    pub kept : exchanges_at new ≡ exchanges_at old
    pub arrived : arrivals_at new ≡ arrivals_at old ++ arrival reader writer door mode ∷ []
    pub by : HasDoor door mode new.connection

  -- the connection, if there was one, ended
  pub record IsCleared (old new : Slot R W r w) : Type 0 where
    pub left : IsLeft old new
    pub none : new.connection ≡ None

  -- the same of a slot, where the connection went on, if there is one
  abbrev pub GoesOnAt : {B : Type 0} → (B → Type 0) → (B → State → Type 0) → (B → State → State → Type 0) → (B → B → State → Asks → Type 0)
      → (B → B → State → State → Type 0) → (from to : B) → Result Standing Fault → (old new : Slot R W r w) → Type 0
  GoesOnAt is_sound stands leaves may reason from to result old new =
      GoesOn is_sound stands leaves may reason from to result (EndsTurnAt result old new) (pending_at new) (exchanges_at old) (exchanges_at new)

  -- Of all slots.

  -- one slot has changed so, and no other
  pub record ChangesOne (how : Slot R W r w → Slot R W r w → Type 0) (at : ℕ) (before after : List (Slot R W r w)) : Type 0 where
    pub within : at < length before
    pub new : Slot R W r w
    pub is : after ≡ slice_set before at new
    pub so : how (slice_index_or before at new) new

  -- so has the slot of this number, if there is one, and no other
  abbrev pub ChangesAt : (Slot R W r w → Slot R W r w → Type 0) → ℕ → List (Slot R W r w) → List (Slot R W r w) → Type 0
  ChangesAt how at before after = ChangesOne how at before after ⊎ ((length before ≤ at) × (after ≡ before))

  -- no message was answered, nobody came, and nothing was read
  pub record AreLeft (old new : List (Slot R W r w)) : Type 0 where
    pub kept : map exchanges_at new ≡ map exchanges_at old
    pub arrivals : map arrivals_at new ≡ map arrivals_at old
    pub unread : map received_at new ≡ map received_at old

  -- who comes, comes by the door and in the mode of its reader, with the writer of the same peer
  pub record Admits (is_at : R → Door → Type 0) (is_by : R → Mode → Type 0) (is_pair : R → W → Type 0)
      (old new : List (Slot R W r w)) : Type 0 where
    pub doors : AreAtTheirDoors is_at old → AreAtTheirDoors is_at new
    pub modes : AreReadInTheirModes is_by old → AreReadInTheirModes is_by new
    pub pairs : ArePairs is_pair old → ArePairs is_pair new

  -- turns were taken, by which these exchanges were added
  pub record TakesTurns (is_at : R → Door → Type 0) (is_by : R → Mode → Type 0) (is_pair : R → W → Type 0) {B : Type 0}
      (is_sound : B → Type 0) (stands : B → State → Type 0) (leaves : B → State → State → Type 0)
      (may : B → B → State → Asks → Type 0) (reason : B → B → State → State → Type 0) (from to : B)
      (store_failed stopped : Bool) (old new : List (Slot R W r w)) (merged : List Slotted) : Type 0 where
    -- the book went on by them
    pub served : Merges is_sound stands leaves may reason from to store_failed stopped (map exchanges_at old) (map exchanges_at new) merged
    -- where they ended so, the house asked the desk to stop
    pub asked : stopped ≡ true → HasStopAmong new
    pub admits : Admits is_at is_by is_pair old new
