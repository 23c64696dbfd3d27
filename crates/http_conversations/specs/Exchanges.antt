-- What is yielded for messages that were answered, and which of them close or stop.
use Rattle.std.specs.Prelude.{◌≡◌, ⊤, ℕ, Bool, true, false, List, [], ◌∷◌, ◌++◌, ◌⊎◌, All, length, drop, if◌then◌else◌, None, IsSome, unwrap_or}
use Rattle.std.specs.List.{flat_map}
use Rattle.desk_http.specs.Pages.{closes, stops}
use Rattle.desk_http.specs.declared.doors.Door.{Door}
use Rattle.http_conversations.specs.PageTexts.{go_on}
use Rattle.http_conversations.specs.Modes.{Said, Says}
use Rattle.http_conversations.specs.Worlds.{Exchange}
use Rattle.http_conversations.specs.declared.modes.Mode.{Mode}
use Rattle.http_conversations.specs.declared.conversation.Stage.{Stage}
use Rattle.http_conversations.specs.declared.conversation.Stage.TheVariants.{Open, Closing, Failed}

-- the messages, one after another
abbrev pub bytes_of : List Exchange → List ℕ
bytes_of exchanges = flat_map (λ x. x.bytes) exchanges

-- 100 Continue, if it was given
abbrev pub go_on_if : Bool → List ℕ
go_on_if given = if given then go_on else []

-- what was yielded for an exchange: 100 Continue, if it was given, and the page
abbrev pub answer_of : Exchange → List ℕ
answer_of x = go_on_if x.went_on ++ unwrap_or x.page []

-- the pages, one after another
abbrev pub pages_of : List Exchange → List ℕ
pages_of exchanges = flat_map answer_of exchanges

-- the bytes are a message, which closes or does not, and it has a page
pub record IsAnswered (closing : Bool) (x : Exchange) : Type 0 where
  pub message : Said
  pub is_message : Says x.mode x.bytes message
  pub closing_as : closes x.door message.meant ≡ closing
  pub has_page : IsSome x.page

-- the bytes are a message, whose page was lost
pub record IsLost (x : Exchange) : Type 0 where
  pub message : Said
  pub is_message : Says x.mode x.bytes message
  pub has_none : x.page ≡ None

-- the message came in at this door
abbrev pub IsAt : Door → Exchange → Type 0
IsAt door x = x.door ≡ door

-- the message was read in this mode
abbrev pub IsBy : Mode → Exchange → Type 0
IsBy mode x = x.mode ≡ mode

-- the last message is a request of the house that the desk stop
pub record EndWithStop (exchanges : List Exchange) : Type 0 where
  pub before : List Exchange
  pub last : Exchange
  pub at_last : exchanges ≡ before ++ last ∷ []
  pub message : Said
  pub is_message : Says last.mode last.bytes message
  pub asked : stops last.door message.meant ≡ true

-- the message asked the desk to stop, and has its page
pub record IsStop (x : Exchange) : Type 0 where
  pub message : Said
  pub is_message : Says x.mode x.bytes message
  pub asked : stops x.door message.meant ≡ true
  pub has_page : IsSome x.page

-- the message did not ask for that, or its page was lost
pub record IsNoStop (x : Exchange) : Type 0 where
  pub message : Said
  pub is_message : Says x.mode x.bytes message
  pub goes_on : (stops x.door message.meant ≡ false) ⊎ (x.page ≡ None)

-- the last of these stops the desk, or none does; no other does
abbrev pub StopAtLast : Bool → List Exchange → Type 0
StopAtLast false exchanges = All IsNoStop exchanges
StopAtLast true exchanges =
    (before : List Exchange) × (last : Exchange) × (exchanges ≡ before ++ last ∷ [])
    × All IsNoStop before × IsStop last

-- the exchanges that were added
abbrev pub since : List Exchange → List Exchange → List Exchange
since before after = drop (length before) after

-- at most one page was lost
abbrev pub AreLost : List Exchange → Type 0
AreLost [] = ⊤
AreLost (x ∷ []) = IsLost x
AreLost (x ∷ y ∷ later) = ⊥

-- All messages have pages, and none of them closes; of a conversation that closes the last one does, and of one that
-- failed the last page may be lost.
abbrev pub AreAnswered : Stage → List Exchange → Type 0
AreAnswered Open exchanges = All (IsAnswered false) exchanges
AreAnswered Closing exchanges =
    (before : List Exchange) × (last : Exchange) × (exchanges ≡ before ++ last ∷ [])
    × All (IsAnswered false) before × IsAnswered true last
AreAnswered Failed exchanges =
    (before : List Exchange) × (lost : List Exchange) × (exchanges ≡ before ++ lost)
    × All (IsAnswered false) before × AreLost lost
