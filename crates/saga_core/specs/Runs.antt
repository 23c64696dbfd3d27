-- Runs of requests, each with its ask, if it has one.
use Rattle.std.specs.Prelude.{◌≡◌, ℕ, ◌+◌, ◌<◌, ◌≤◌, List, [], ◌∷◌, take, map, length, Option}
use Rattle.commands.specs.Asks.{Asked}
use Rattle.commands.specs.Orders.{request_of}
use Rattle.commands.specs.Request.{Request}
use Rattle.commands.specs.declared.asks.Command.{Command}
use Rattle.commands.specs.declared.replies.Fault.{Fault}
use Rattle.commands.specs.declared.replies.Fault.TheVariants.{Memory, Store}
use Rattle.commands.specs.declared.replies.Reply.{Reply}
use Rattle.ledger.specs.Answer.{State, Outcome, outcome}

-- the requests to a desk, in order, each with its ask, if it has one
abbrev pub Asks : Type 0
Asks = List (Request × Option Asked)

-- the request of a command
abbrev pub asked_by : Command × Option Asked → Request × Option Asked
asked_by c = (request_of c.0, c.1)

-- the requests of a list of commands, in order
abbrev pub asks_of : List (Command × Option Asked) → Asks
asks_of commands = map asked_by commands

-- the outcome of a request with its ask
abbrev pub outcome_of : State → Request × Option Asked → Outcome
outcome_of s c = outcome s c.1 c.0

-- the replies to asks, in order
abbrev pub replies_to : State → Asks → List Reply
replies_to s [] = []
replies_to s (c ∷ cs) = (outcome_of s c).reply ∷ replies_to (outcome_of s c).state cs

-- the state of the desk after these asks
abbrev pub state_after : State → Asks → State
state_after s [] = s
state_after s (c ∷ cs) = state_after (outcome_of s c).state cs

-- what is left of a book after so many asks: it represents the state there, or the store failed at the next ask
abbrev pub IsLeft : (State → Type 0) → (State → State → Type 0) → State → Asks → ℕ → Fault → Type 0
IsLeft stands leaves s asks k Memory = stands (state_after s (take k asks))
IsLeft stands leaves s asks k Store =
    (k < length asks) × leaves (state_after s (take k asks)) (state_after s (take (k + 1) asks))

-- a prefix of the asks of this length was answered and executed
pub record StopsAmong (stands : State → Type 0) (leaves : State → State → Type 0) (s : State) (asks : Asks)
    (replies : List Reply) (fault : Fault) : Type 0 where
  pub count : ℕ
  pub within : count ≤ length asks
  pub replied : replies ≡ replies_to s (take count asks)
  pub left : IsLeft stands leaves s asks count fault

-- in each state that the book represented, these are the replies to the asks
abbrev pub AreReplies : (State → Type 0) → Asks → List Reply → Type 0
AreReplies stood asks replies = (s : State) → stood s → replies ≡ replies_to s asks

-- the book represents the state after the asks
abbrev pub MovesOnBy : (State → Type 0) → (State → Type 0) → Asks → Type 0
MovesOnBy stood stands asks = (s : State) → stood s → stands (state_after s asks)

-- from each state that the book represented, the run stops among the asks with these replies
abbrev pub Stops : (State → Type 0) → (State → Type 0) → (State → State → Type 0) → Asks → List Reply → Fault → Type 0
Stops stood stands leaves asks replies fault =
    (s : State) → stood s → StopsAmong stands leaves s asks replies fault
