-- The rows that an event of any kind writes, with those of the reply that is kept with it.
use Rattle.std.specs.Prelude.{◌≡◌, ℕ, List, ⊤, Option, Some, None, option_map}
use Rattle.commands.specs.Asks.{Asked}
use Rattle.desk_sql.specs.Rows.{Tables}
use Rattle.desk_sql.specs.Changes.{AreItemsBelow, AreJourneysBelow, adds_answer, kept}
use Rattle.ledger.specs.Answer.{State}
use Rattle.sql_model.specs.Standing.{StandsFor}
use Rattle.sql_writes.specs.declared.events.Numbers.{Numbers}
use Rattle.sql_writes.specs.declared.events.Keeping.{Keeping}
use Rattle.sql_writes.specs.declared.events.Event.{Event}
use Rattle.sql_writes.specs.declared.events.Event.TheVariants.{Begin, Transaction, Compensation, Turn, Save, Load}
use Rattle.sql_writes.specs.Begins.{begin_rows}
use Rattle.sql_writes.specs.Events.{IsSmallStep, IsSmallTurn, IsSmallSave, MayTake, MayGive, transaction_rows, compensation_rows, turn_rows, save_rows}
use Rattle.sql_writes.specs.Loads.{MayLoad, load_rows}

-- the numbers of an event fit the store's integers
abbrev pub IsSmall : Event → Type 0
IsSmall (Begin b) = ⊤
IsSmall (Transaction m) = IsSmallStep m
IsSmall (Compensation m) = IsSmallStep m
IsSmall (Turn m) = IsSmallTurn m
IsSmall (Save m) = IsSmallSave m
IsSmall (Load b) = ⊤

-- the preconditions of an event on the rows before it
abbrev pub Fits : Numbers → Event → Tables → Type 0
Fits n (Begin b) t = AreJourneysBelow n.journeys t
Fits n (Transaction m) t = MayTake n m t
Fits n (Compensation m) t = MayGive n m t
Fits n (Turn m) t = AreItemsBelow n.num t
Fits n (Save m) t = AreItemsBelow n.num t
Fits n (Load b) t = MayLoad t

-- the rows after an event
abbrev pub rows_after : Numbers → Event → Tables → Tables
rows_after n (Begin b) t = begin_rows n b t
rows_after n (Transaction m) t = transaction_rows n m t
rows_after n (Compensation m) t = compensation_rows n m t
rows_after n (Turn m) t = turn_rows n m t
rows_after n (Save m) t = save_rows n m t
rows_after n (Load b) t = load_rows n b t

-- the ask for which a reply is kept, if one is
abbrev pub asks : Option Keeping → Option Asked
asks keeping = option_map (λ (k : Keeping). k.ask.now) keeping

-- the line that is kept, if one is; else any
abbrev pub KeepsLine : Option Keeping → List ℕ → Type 0
KeepsLine None line = ⊤
KeepsLine (Some k) line = k.line.now ≡ line

-- the rows after an event, and the row of its reply's line if there is an ask
abbrev pub event_rows : Numbers → Event → Option Asked → List ℕ → Tables → Tables
event_rows n e None line t = rows_after n e t
event_rows n e (Some ask) line t = adds_answer (kept ask.agent ask.key ask.text line) (rows_after n e t)

-- tables that represent the old state fit the event, and with its rows, and that of its reply if there is an ask, represent
-- the new state
pub record LeadsTo (n : Numbers) (e : Event) (ask : Option Asked) (line : List ℕ) (old new : State) : Type 0 where
  pub fits : (t : Tables) → StandsFor t old → Fits n e t
  pub stands : (t : Tables) → StandsFor t old → StandsFor (event_rows n e ask line t) new
