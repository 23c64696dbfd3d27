-- How an execution continues with the messages of a connection: the commands that the messages make, each of them
-- executed and answered, and perhaps a last one that was cut off where the store failed.
use Rattle.std.specs.Prelude.{◌≡◌, ◌⊎◌, ⊤, ℕ, List, [], ◌∷◌, ◌++◌, length, Option, Some, None}
use Rattle.ledger.specs.Answer.{State, start}
use Rattle.ledger.specs.World.{Moment, after}
use Rattle.saga_core.specs.Runs.{Asks}
use Rattle.saga_core.specs.Worlds.{StandsAtEnd, EndsWith, EndsAmong}
use Rattle.http_messages.specs.Messages.{Message, BeginsWith}
use Rattle.desk_http.specs.Pages.{Command, command_in}
use Rattle.desk_http.specs.Serving.{ServesAll, ServesSome}
use Rattle.desk_http.specs.declared.doors.Door.TheVariants.{Port}
use Rattle.saga_core.specs.StreamFaults.{is_store}
use Rattle.saga_core.specs.StreamScenes.{Scene}
use Rattle.saga_core.specs.declared.serve_faults.ServeFault.{ServeFault}
use Rattle.saga_core.specs.declared.serve_faults.ServeFault.TheVariants.{Memory, Store, Read, Write}

-- the command of a message, if it makes one
abbrev pub asks_by : Option Command → Asks
asks_by (Some command) = command ∷ []
asks_by None = []

-- the commands of these messages at the port, in order
abbrev pub asks_in : List Message → Asks
asks_in [] = []
asks_in (m ∷ later) = asks_by (command_in Port m) ++ asks_in later

-- the messages of the input up to and including the first that closes were answered, and the execution continues with
-- their commands
pub record EndsWithMessages (x : Scene) (w : List Moment) (input : List ℕ) (count : ℕ) : Type 0 where
  pub all : ServesAll x (after start w) input count
  pub ends : EndsWith x.stands x.leaves w (asks_in all.messages)

-- every execution at whose end the book stood continues so
abbrev pub GoesOnWithMessages : (State → Type 0) → Scene → List ℕ → ℕ → Type 0
GoesOnWithMessages stood x input count =
    (w : List Moment) → StandsAtEnd stood w → EndsWithMessages x w input count

-- no message, or the next one of the rest of the input
abbrev pub ComesNext : List ℕ → List Message → Type 0
ComesNext rest [] = ⊤
ComesNext rest (m ∷ []) = (after : List ℕ) × BeginsWith rest m after
ComesNext rest (m ∷ n ∷ later) = ⊥

-- the commands that were executed at a fault, where these messages were answered and this one came next: those of the
-- answered messages; if the next page could not be written, that message's command too; out of memory, either
abbrev pub IsCarriedOut : ServeFault → List Message → List Message → Asks → Type 0
IsCarriedOut Read answered next carried = carried ≡ asks_in answered
IsCarriedOut Write answered next carried = (length next ≡ 1) × (carried ≡ asks_in (answered ++ next))
IsCarriedOut Memory answered next carried =
    (carried ≡ asks_in answered) ⊎ (carried ≡ asks_in (answered ++ next))
IsCarriedOut Store answered next carried = carried ≡ asks_in answered

-- the commands that were in progress at a fault: the next message's, if the store failed, and otherwise none
abbrev pub IsUnderWay : ServeFault → List Message → Asks → Type 0
IsUnderWay Store next under_way = (length next ≡ 1) × (under_way ≡ asks_in next)
IsUnderWay _ next under_way = under_way ≡ []

-- a prefix of the messages was answered, of which none closes, and then a fault came; the execution continues with a
-- prefix of their commands and that of the next message, as far as they were executed
pub record EndsAmongMessages (x : Scene) (w : List Moment) (input : List ℕ) (fault : ServeFault) : Type 0 where
  pub some : ServesSome x (after start w) input fault
  pub next : List Message
  pub comes : ComesNext some.rest next
  pub among : EndsAmong x.stands x.leaves w (asks_in (some.messages ++ next)) (is_store fault)
  pub carried_out : IsCarriedOut fault some.messages next among.progress.answered
  pub under_way : IsUnderWay fault next among.progress.under_way

-- every execution at whose end the book stood continues so
abbrev pub GoesOnAmongMessages : (State → Type 0) → Scene → List ℕ → ServeFault → Type 0
GoesOnAmongMessages stood x input fault =
    (w : List Moment) → StandsAtEnd stood w → EndsAmongMessages x w input fault
