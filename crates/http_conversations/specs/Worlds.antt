-- Messages that were answered, with their pages, and how a world goes on with them.
use Rattle.std.specs.Prelude.{◌≡◌, ◌⊎◌, ⊤, ℕ, Bool, true, false, List, [], ◌∷◌, ◌++◌, Option, Some, None}
use Rattle.ledger.specs.Answer.{State, start}
use Rattle.ledger.specs.World.{Moment, after}
use Rattle.saga_core.specs.Runs.{Asks}
use Rattle.saga_core.specs.Worlds.{EndsWith, EndsAmong}
use Rattle.http_messages.specs.Messages.{Message}
use Rattle.desk_http.specs.Pages.{command_in, state_after}
use Rattle.desk_http.specs.Worlds.{asks_by}
use Rattle.desk_http.specs.declared.doors.Door.{Door}
use Rattle.http_conversations.specs.Pages.{IsPageBy}
use Rattle.http_conversations.specs.Modes.{Said, Says}
use Rattle.http_conversations.specs.declared.modes.Mode.{Mode}

-- the door at which a message came in, the mode in which it was read, its bytes, whether 100 Continue was given for it, and
-- the bytes of its page, unless the page was lost
pub record Exchange : Type 0 where
  pub door : Door
  pub mode : Mode
  pub bytes : List ℕ
  pub went_on : Bool
  pub page : Option (List ℕ)

-- a message that is meant, with the door at which it came in
abbrev pub Heard : Type 0
Heard = Door × Message

-- the commands of these messages, in order
abbrev pub asks_of : List Heard → Asks
asks_of [] = []
asks_of (m ∷ later) = asks_by (command_in m.0 m.1) ++ asks_of later

-- the page of the message in this state, unless it was lost
abbrev pub HasPage : Door → State → Said → Option (List ℕ) → Type 0
HasPage door s m None = ⊤
HasPage door s m (Some page) = IsPageBy door s m page

-- In the state s the message of an exchange was carried out, which leads to t, and then these; one that lost its page was
-- carried out or not.
pub record IsDone (s t : State) (x : Exchange) (ms later : List Heard) : Type 0 where
  pub message : Said
  pub is_message : Says x.mode x.bytes message
  pub page : HasPage x.door s message x.page
  pub done : ((ms ≡ (x.door, message.meant) ∷ later) × (t ≡ state_after x.door s message.meant))
      ⊎ ((x.page ≡ None) × (ms ≡ later) × (t ≡ s))

-- From the state s these messages of the exchanges were carried out, each once and in order: all that have pages, each
-- that of its message where it was carried out, and perhaps those that lost theirs.
abbrev pub AreDone : State → List Exchange → List Heard → Type 0
AreDone s [] ms = ms ≡ []
AreDone s (x ∷ rest) ms = (t : State) × (later : List Heard) × IsDone s t x ms later × AreDone t rest later

-- the world goes on with what the exchanges ask for
pub record EndsWithExchanges (stands : State → Type 0) (leaves : State → State → Type 0) (w : List Moment)
    (exchanges : List Exchange) : Type 0 where
  pub messages : List Heard
  pub done : AreDone (after start w) exchanges messages
  pub ends : EndsWith stands leaves w (asks_of messages)

-- the world goes on with what the exchanges before the last ask for, and perhaps with the last, which the store cut off
pub record EndsAmongExchanges (stands : State → Type 0) (leaves : State → State → Type 0) (w : List Moment)
    (exchanges : List Exchange) : Type 0 where
  pub before : List Exchange
  pub last : Exchange
  pub at_last : exchanges ≡ before ++ last ∷ []
  pub is_lost : last.page ≡ None
  pub messages : List Heard
  pub done : AreDone (after start w) before messages
  pub next : Said
  pub is_next : Says last.mode last.bytes next
  pub among : EndsAmong stands leaves w (asks_of (messages ++ (last.door, next.meant) ∷ [])) true
  pub answered : among.progress.answered ≡ asks_of messages
  pub under_way : among.progress.under_way ≡ asks_of ((last.door, next.meant) ∷ [])

-- the world goes on by exchanges, if the store did not fail, or if it did at the last
abbrev pub GoesOnBy : Bool → (State → Type 0) → (State → State → Type 0) → List Moment → List Exchange → Type 0
GoesOnBy false stands leaves w exchanges = EndsWithExchanges stands leaves w exchanges
GoesOnBy true stands leaves w exchanges = EndsAmongExchanges stands leaves w exchanges
