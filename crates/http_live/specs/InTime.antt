-- Order in time: how serving stands between two turns, what a turn makes of it, and turn after turn. For serve_many.
use Rattle.std.specs.Prelude.{◌≡◌, ◌⊎◌, ℕ, ◌+◌, ◌-◌, ◌^◌, ◌≤◌, Bool, false, List, [], ◌∷◌, ◌++◌, length, map, Result, Ok, Err}
use Rattle.std.specs.List.{Contains}
use Rattle.std.specs.declared.io.traits.Read as Read
use Rattle.std.specs.declared.io.traits.Write as Write
use Rattle.ledger.specs.Answer.{State}
use Rattle.saga_core.specs.Runs.{Asks}
use Rattle.commands.specs.declared.replies.Fault.{Fault}
use Rattle.desk_http.specs.declared.doors.Door.{Door}
use Rattle.http_conversations.specs.declared.modes.Mode.{Mode}
use Rattle.http_conversations.specs.Leading.{has_broken}
use Rattle.http_live.specs.Calls.{ChangesAt, ChangesOne, GoesOnAt, IsCleared, IsTakenBy, TakesTurns}
use Rattle.http_live.specs.Endings.{turn_stops}
use Rattle.http_live.specs.Merging.{Merges, Slotted, slotted_at}
use Rattle.http_live.specs.Slots.{exchanges_at}
use Rattle.http_live.specs.Worlds.{WorldsGoOn}
use Rattle.http_live.specs.declared.slots.Slot.{Slot}
use Rattle.http_live.specs.declared.slots.Standing.{Standing}
use Rattle.http_live.specs.declared.serving.Turn.{Turn}
use Rattle.http_live.specs.declared.serving.Turn.TheVariants.{Comes, Ready, Leaves, End}

-- how serving stands between two turns
pub record Instant {R W : Type 0} (r : Read.Ghosts R) (w : Write.Ghosts W) (T B : Type 0) : Type 0 where
  pub turns : T
  pub slots : List (Slot R W r w)
  pub book : B

-- the source of turns, the slots and the book at one time
abbrev pub instant : {R W : Type 0} {r : Read.Ghosts R} {w : Write.Ghosts W} {T B : Type 0} → T → List (Slot R W r w) → B → Instant r w T B
instant turns slots book = record { turns = turns; slots = slots; book = book }

-- the source of turns was shown something, or asked for the time, or it is as it was
abbrev pub Sees : {T : Type 0} → (T → T → Type 0) → T → T → Type 0
Sees seen old new = (new ≡ old) ⊎ seen old new

-- It was shown what came of the turn of a slot, and then heard for what the connection waits. Where the store failed, it was
-- told nothing.
abbrev pub IsTold : {T : Type 0} → (T → ℕ → Standing → T → Type 0) → (T → T → Type 0) → ℕ → Result Standing Fault → T → T → Type 0
IsTold {T} heard seen at (Ok standing) old new = (shown : T) × Sees seen old shown × heard shown at standing new
IsTold heard seen at (Err fault) old new = new ≡ old

module _ {R W T : Type 0} (took : T → Turn R W → T → Type 0) (heard : T → ℕ → Standing → T → Type 0) (seen : T → T → Type 0) where
  -- The source gave so many turns, one after another. Between them it was shown or told something.
  pub data GivesTurns : ℕ → T → T → Type 0 where
    gave : {from to : T} {turn : Turn R W} → took from turn to → GivesTurns 1 from to
    was_shown : {from to : T} → Sees seen from to → GivesTurns 0 from to
    was_told : {from to : T} (at : ℕ) (result : Result Standing Fault) → IsTold heard seen at result from to → GivesTurns 0 from to
    both : {m n : ℕ} {first now last : T} → GivesTurns m first now → GivesTurns n now last → GivesTurns (m + n) first last

  -- it gave as many as a number of 64 bits counts
  abbrev pub GivesAll : T → T → Type 0
  GivesAll = GivesTurns (2 ^ 64 - 1)

module _ {R W T B : Type 0} {r : Read.Ghosts R} {w : Write.Ghosts W} (took : T → Turn R W → T → Type 0)
    (heard : T → ℕ → Standing → T → Type 0) (seen : T → T → Type 0) (is_at : R → Door → Type 0) (is_by : R → Mode → Type 0)
    (is_pair : R → W → Type 0) (is_sound : B → Type 0) (stands : B → State → Type 0) (leaves : B → State → State → Type 0)
    (may : B → B → State → Asks → Type 0) (reason : B → B → State → State → Type 0) where
  -- One turn, from an instant to the next: whether the store failed in it, whether the house asked the desk to stop, and which
  -- exchanges were added.
  pub data IsTurn : Bool → Bool → Instant r w T B → List Slotted → Instant r w T B → Type 0 where
    -- a peer came, and took its slot
    came : (from to : T) (before after : List (Slot R W r w)) (book : B) (at : ℕ) (door : Door) (mode : Mode) (reader : R) (writer : W)
        → took from (Comes at door mode reader writer) to → is_at reader door → is_by reader mode → is_pair reader writer
        → ChangesAt (IsTakenBy reader writer door mode) at before after
        → IsTurn false false (instant from before book) [] (instant to after book)
    -- The connection of a slot went on. Before it the source of turns was shown what was received, and asked for the time.
    went_on : (from taken shown timed to : T) (before after : List (Slot R W r w)) (old new : B) (at : ℕ) (result : Result Standing Fault)
        → took from (Ready at) taken → Sees seen taken shown → Sees seen shown timed
        → (slot : ChangesOne (GoesOnAt is_sound stands leaves may reason old new result) at before after)
        → IsTold heard seen at result timed to → (is_sound new → is_sound old)
        → IsTurn (has_broken result) (turn_stops result) (instant from before old) (slotted_at at slot.so.turn.goes_on.exchanges)
        (instant to after new)
    -- the connection of a slot was to go on, but there is no such slot
    had_none : (from to : T) (slots : List (Slot R W r w)) (book : B) (at : ℕ) → took from (Ready at) to → length slots ≤ at
        → IsTurn false false (instant from slots book) [] (instant to slots book)
    -- the connection of a slot ended
    left : (from to : T) (before after : List (Slot R W r w)) (book : B) (at : ℕ) → took from (Leaves at) to → ChangesAt IsCleared at before after
        → IsTurn false false (instant from before book) [] (instant to after book)
    -- no turn came
    ended : (from to : T) (slots : List (Slot R W r w)) (book : B) → took from End to
        → IsTurn false false (instant from slots book) [] (instant to slots book)

  -- one turn, with the exchanges that it added
  abbrev pub TakesTurn : Bool → Bool → Instant r w T B → Instant r w T B → Type 0
  TakesTurn failed stopped old new = (added : List Slotted) × IsTurn failed stopped old added new

  -- Turn after turn, from one instant to another: the instants at which they were taken, and the exchanges that they added, both
  -- in order. In none but the last did the store fail, or the house ask the desk to stop.
  pub data ByTurns : Bool → Bool → Instant r w T B → List (Instant r w T B) → List Slotted → Instant r w T B → Type 0 where
    none : (first : Instant r w T B) → ByTurns false false first [] [] first
    more : (failed stopped : Bool) (first old new : Instant r w T B) (instants : List (Instant r w T B)) (merged added : List Slotted)
        → ByTurns false false first instants merged old → IsTurn failed stopped old added new
        → ByTurns failed stopped first (instants ++ old ∷ []) (merged ++ added) new

  -- some turns, one after another
  pub record TakesSome (failed stopped : Bool) (first last : Instant r w T B) : Type 0 where
    pub instants : List (Instant r w T B)
    pub merged : List Slotted
    pub by_turns : ByTurns failed stopped first instants merged last

  -- Turns were taken one after another. The exchanges that they added, in order, are those by which each world goes on.
  pub record InTime (failed stopped : Bool) (first last : Instant r w T B) : Type 0 where
    pub worlds : WorldsGoOn is_sound stands leaves may reason first.book last.book failed stopped
        (map exchanges_at first.slots) (map exchanges_at last.slots)
    pub instants : List (Instant r w T B)
    pub by_turns : ByTurns failed stopped first instants worlds.merged last
    pub turns : TakesTurns is_at is_by is_pair is_sound stands leaves may reason first.book last.book failed stopped
        first.slots last.slots worlds.merged

  -- What was answered by an instant comes before what was answered after it: the former leads the book to where it stood at that
  -- instant, and the latter leads on from there.
  pub record IsInOrder (failed stopped : Bool) (first now last : Instant r w T B) (merged : List Slotted) : Type 0 where
    pub earlier : List Slotted
    pub later : List Slotted
    pub parts : merged ≡ earlier ++ later
    pub sound : is_sound last.book → is_sound now.book
    pub answered : Merges is_sound stands leaves may reason first.book now.book false false
        (map exchanges_at first.slots) (map exchanges_at now.slots) earlier
    pub follows : Merges is_sound stands leaves may reason now.book last.book failed stopped
        (map exchanges_at now.slots) (map exchanges_at last.slots) later

module _ {R W T B : Type 0} (r : Read.Ghosts R) (w : Write.Ghosts W) (took : T → Turn R W → T → Type 0)
    (heard : T → ℕ → Standing → T → Type 0) (seen : T → T → Type 0) (is_at : R → Door → Type 0) (is_by : R → Mode → Type 0)
    (is_pair : R → W → Type 0) (is_sound : B → Type 0) (stands : B → State → Type 0) (leaves : B → State → State → Type 0)
    (may : B → B → State → Asks → Type 0) (reason : B → B → State → State → Type 0) where
  -- So it is at each instant at which a turn was taken: what was answered before is seen by whatever is answered in that turn and
  -- after it.
  abbrev pub EachInstantIsInOrder : Type 0
  EachInstantIsInOrder =
      (failed stopped : Bool) (first now last : Instant r w T B) (instants : List (Instant r w T B)) (merged : List Slotted)
      → ByTurns took heard seen is_at is_by is_pair is_sound stands leaves may reason failed stopped first instants merged last → Contains instants now
      → IsInOrder took heard seen is_at is_by is_pair is_sound stands leaves may reason failed stopped first now last merged

  -- so it is at the second of two turns
  abbrev pub SecondSeesTheFirst : Type 0
  SecondSeesTheFirst =
      (first now last : Instant r w T B) (xs ys : List Slotted)
      → IsTurn took heard seen is_at is_by is_pair is_sound stands leaves may reason false false first xs now
      → IsTurn took heard seen is_at is_by is_pair is_sound stands leaves may reason false false now ys last
      → IsInOrder took heard seen is_at is_by is_pair is_sound stands leaves may reason false false first now last (xs ++ ys)
