-- Idempotence of a message that made an event, how long the text of an ask is, for whom a command is carried out, and who is
-- shown reports.
use Rattle.std.specs.Prelude.{◌≡◌, ⊤, ◌≤◌, ◌+◌, ℕ, Bool, true, false, Result, Ok, List, [], ◌∷◌, length, Option, None, Some, is_some, IsTrue}
use Rattle.commands.specs.Asks.{Asked}
use Rattle.commands.specs.Limits.{most_bytes}
use Rattle.commands.specs.Request.{Request}
use Rattle.ledger.specs.Answer.{State, outcome}
use Rattle.ledger.specs.World.{Moment, after}
use Rattle.http_messages.specs.Heads.{Parts, is_unnamed, meant_agents, most_head_bytes, parts_of}
use Rattle.http_messages.specs.Messages.{Message, NoHead, Asks, BeginsWith}
use Rattle.http_pages.specs.declared.routes.Denied.{Denied}
use Rattle.desk_http.specs.Demands.{Demand, SeeMetrics, SeeReport, demand_of}
use Rattle.desk_http.specs.Pages.{IsPage, command_in, state_after}
use Rattle.desk_http.specs.declared.doors.Door.{Door}
use Rattle.desk_http.specs.declared.doors.Door.TheVariants.{House}

-- the message makes an agent's command, which makes an event
pub record MakesEvent (door : Door) (s : State) (m : Message) : Type 0 where
  pub asked : Request
  pub ask : Asked
  pub asks : command_in door m ≡ Some (asked, Some ask)
  pub made : IsTrue (is_some (outcome s (Some ask) asked).event)

-- the state after the message made its event and all this followed
abbrev pub later : Door → State → Message → List Moment → State
later door s m between = after (state_after door s m) between

-- whatever comes between, the message gets the same page again and changes nothing
pub record AnswersAgain (door : Door) (s : State) (m : Message) (between : List Moment) : Type 0 where
  pub page : (first again : List ℕ) → IsPage door s m first
      → IsPage door (later door s m between) m again → again ≡ first
  pub state : state_after door (later door s m between) m ≡ later door s m between

-- an agent's message that made an event is idempotent at either door: it gets the same page again, and makes no second event
abbrev pub ActOnce : Type 0
ActOnce =
    (door : Door) (s : State) (m : Message) (between : List Moment) → MakesEvent door s m
    → AnswersAgain door s m between

-- the text of the message's ask, if it makes a command of an agent, has no more bytes than a head and a body may have
abbrev pub HasShortAsk : Door → Message → Type 0
HasShortAsk door m =
    (asked : Request) (ask : Asked) → command_in door m ≡ Some (asked, Some ask)
    → length ask.text ≤ most_head_bytes + most_bytes

-- so it is of each message of a stream, at each door
abbrev pub AsksAreShort : Type 0
AsksAreShort = (door : Door) (stream rest : List ℕ) (m : Message) → BeginsWith stream m rest → HasShortAsk door m

-- of these who are meant, there is none, or the agent of this ask alone
abbrev pub MeansAsk : List (List ℕ) → Option Asked → Type 0
MeansAsk [] ask = ⊤
MeansAsk (agent ∷ later) None = ⊥
MeansAsk (agent ∷ later) (Some ask) = (agent ≡ ask.agent) × (later ≡ [])

-- a command that the message makes is that of the agent for whom the message is meant, if it is meant for any
abbrev pub IsForWhomIsMeant : Door → Message → Type 0
IsForWhomIsMeant door NoHead = ⊤
IsForWhomIsMeant door (Asks h body) =
    (asked : Request) (ask : Option Asked) → command_in door (Asks h body) ≡ Some (asked, ask)
    → MeansAsk (meant_agents (parts_of h)) ask

-- so it is of each message, at each door
abbrev pub CommandsAreForWhomIsMeant : Type 0
CommandsAreForWhomIsMeant = (door : Door) (m : Message) → IsForWhomIsMeant door m

-- the demand is for what the house alone is shown: a report, or what a monitor reads
abbrev pub is_for_house : Result Demand Denied → Bool
is_for_house (Ok (SeeReport report)) = true
is_for_house (Ok SeeMetrics) = true
is_for_house _ = false

-- so it is asked for at the house's own door alone, by a request that names nobody
abbrev pub ReportsAreForTheHouse : Type 0
ReportsAreForTheHouse =
    (door : Door) (parts : Parts) (body : List ℕ) → is_for_house (demand_of door parts body) ≡ true
    → (door ≡ House) × (is_unnamed parts ≡ true)
