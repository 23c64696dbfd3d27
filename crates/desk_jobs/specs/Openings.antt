-- What one opening of the store adds to a world: the desk is reopened and recovers, and then answers what comes to it.
use Rattle.std.specs.Prelude.{◌≡◌, ◌⊎◌, ⊤, ℕ, List, [], ◌∷◌, ◌++◌, None, Result, Ok, Err}
use Rattle.commands.specs.BatchData.{Batched}
use Rattle.commands.specs.Request as request
use Rattle.commands.specs.Texts.{reply_line}
use Rattle.allotment_csv.specs.Files.{batch_of}
use Rattle.allotment_csv.specs.declared.faults.CsvFault.{CsvFault}
use Rattle.ledger.specs.Answer.{State, start, outcome}
use Rattle.ledger.specs.Ledger.{Event}
use Rattle.ledger.specs.World.{Moment, after}
use Rattle.saga_core.specs.Chains.{GoesOnTo, reopened}
use Rattle.saga_core.specs.Runs.{Asks}
use Rattle.saga_core.specs.Worlds.{continued}
use Rattle.recovery.specs.Recovers.{IsRecovery}
use Rattle.recovery.specs.Worlds.{orders_of}
use Rattle.saga_core.specs.StreamScenes.{ended}
use Rattle.recovery.specs.Lines.{lines, answer_lines, written}
use Rattle.recovery.specs.LineWorlds as by_line
use Rattle.http_conversations.specs.Worlds.{Exchange, AreDone, Heard, asks_of}

-- What comes to a desk that was opened: the bytes of lines, or the exchanges with many connections, in the order in which their
-- messages were carried out; or an allotment file, under the name of a batch; or nothing, where the desk only recovers.
pub data Input : Type 0 where
  Lines : (bytes : List ℕ) → Input
  Connections : (exchanges : List Exchange) → Input
  File : (name : List ℕ) → (bytes : List ℕ) → Input
  Nothing : Input

-- the ask of a batch, by the house
abbrev pub ask_of_batch : Batched → Asks
ask_of_batch batch = (request.Load batch.name batch.rows, None) ∷ []

-- a file asks for its batch; one that is refused, or whose name is, asks for nothing
abbrev pub asks_of_file : Result Batched CsvFault → Asks
asks_of_file (Ok batch) = ask_of_batch batch
asks_of_file (Err wrong) = []

-- the line of the reply to a batch
abbrev pub load_reply : State → Batched → List ℕ
load_reply s batch = ended (reply_line (outcome s None (request.Load batch.name batch.rows)).reply)

-- from this state on the first lines of an input ask for these, or those messages of exchanges that were carried out
abbrev pub AsksFor : State → Input → Asks → Type 0
AsksFor s (Lines bytes) asks =
    (first later : List (List ℕ)) × (lines bytes ≡ first ++ later) × (asks ≡ by_line.asks_in first)
AsksFor s (Connections exchanges) asks =
    (carried_out : List Heard) × AreDone s exchanges carried_out × (asks ≡ asks_of carried_out)
AsksFor s (File name bytes) asks = asks ≡ asks_of_file (batch_of name bytes)
AsksFor s Nothing asks = asks ≡ []

-- The first lines of an input ask for these, and these bytes answer them in this state. The pages of exchanges answer their messages
-- in the states in which these were carried out, and no bytes go to the writer. The line of the reply answers a file.
abbrev pub IsAnsweredBy : State → Input → Asks → List ℕ → Type 0
IsAnsweredBy s (Lines bytes) asks answers =
    (first later : List (List ℕ)) × (lines bytes ≡ first ++ later) × (asks ≡ by_line.asks_in first)
    × (answers ≡ written (answer_lines s first))
IsAnsweredBy s (Connections exchanges) asks answers =
    (carried_out : List Heard) × AreDone s exchanges carried_out × (asks ≡ asks_of carried_out)
    × (answers ≡ [])
IsAnsweredBy s (File name bytes) asks answers =
    ((asks ≡ []) × (answers ≡ []))
    ⊎ ((batch : Batched) × (batch_of name bytes ≡ Ok batch) × (asks ≡ ask_of_batch batch)
    × (answers ≡ load_reply s batch))
IsAnsweredBy s Nothing asks answers = (asks ≡ []) × (answers ≡ [])

-- what was written is a prefix of the answers to asks that were carried out, from the first on
pub record IsTold (s : State) (input : Input) (carried_out : Asks) (told : List ℕ) : Type 0 where
  pub answered : Asks
  pub others : Asks
  pub done : carried_out ≡ answered ++ others
  pub answers : List ℕ
  pub are : IsAnsweredBy s input answered answers
  pub unsent : List ℕ
  pub sent : answers ≡ told ++ unsent

-- The desk answered, and the world went on from w to v: with a prefix of what the input asks for, and perhaps the next
-- ask cut off. Each answer that was written, in whole or in part, is that of an ask that was carried out.
pub record Answers (w : List Moment) (input : Input) (told : List ℕ) (v : List Moment) : Type 0 where
  pub asks : Asks
  pub come : AsksFor (after start w) input asks
  pub goes : GoesOnTo w asks v
  pub is_told : IsTold (after start w) input goes.progress.answered told

-- the world, after a reopening and the house's commands that make these events
abbrev pub recovered : List Moment → List Event → List Moment
recovered w events = continued (reopened w) (orders_of events) []

-- no message of a connection was answered
abbrev pub HasNoExchange : Input → Type 0
HasNoExchange (Lines bytes) = ⊤
HasNoExchange (Connections exchanges) = exchanges ≡ []
HasNoExchange (File name bytes) = ⊤
HasNoExchange Nothing = ⊤

-- the desk stopped before it was recovered: it answered nobody, and wrote nothing
pub record StopsRecovering (w : List Moment) (input : Input) (told : List ℕ) (v : List Moment) : Type 0 where
  pub events : List Event
  pub is : IsRecovery (after start w) events
  pub goes : GoesOnTo (reopened w) (orders_of events) v
  pub unserved : HasNoExchange input
  pub silent : told ≡ []

-- the desk recovered, and then answered
pub record StopsAnswering (w : List Moment) (input : Input) (told : List ℕ) (v : List Moment) : Type 0 where
  pub events : List Event
  pub is : IsRecovery (after start w) events
  pub answers : Answers (recovered w events) input told v

-- one opening
abbrev pub Opening : List Moment → Input → List ℕ → List Moment → Type 0
Opening w input told v = StopsRecovering w input told v ⊎ StopsAnswering w input told v
