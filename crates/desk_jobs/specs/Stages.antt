-- Where each stage of an opening leaves the desk.
use Rattle.std.specs.Prelude.{ℕ, List, Option, []}
use Rattle.std.specs.Io.KnownBytes.{Appends}
use Rattle.sqlite.specs.Tree.{Trees}
use Rattle.sqlite.specs.State.{State as Connected}
use Rattle.desk_sql.specs.declared.versions.Version.{Version}
use Rattle.ledger.specs.Answer.{State, start}
use Rattle.ledger.specs.Ledger.{Event}
use Rattle.ledger.specs.World.{Moment, after, IsWorld}
use Rattle.saga_core.specs.Chains.{GoesOnTo}
use Rattle.saga_core.specs.Worlds.{StandsAtEnd, continued}
use Rattle.recovery.specs.Recovers.{IsRecovery}
use Rattle.recovery.specs.Worlds.{orders_of}
use Rattle.sql_model.specs.Keeping.{StoodFor}
use Rattle.desk_jobs.specs.Openings.{Input, Answers}
use Rattle.desk_jobs.specs.Worlds.{Reopens}
use Rattle.desk_jobs.specs.Chains.{StandsAs}

-- the connection stood for this state, in tables of some version
abbrev pub Stood : Connected → State → Type 0
Stood c s = (v : Version) × StoodFor v c s

-- the desk is recovered: the world w went on with the house's commands, and the book stands for its end
pub record HasRecovered (stands : State → Type 0) (w : List Moment) : Type 0 where
  pub events : List Event
  pub is : IsRecovery (after start w) events
  pub ends : StandsAtEnd stands (continued w (orders_of events) [])

-- the desk stopped while it recovered, and this database stands for where it stopped
pub record Recovering (w : List Moment) (db : Trees) : Type 0 where
  pub events : List Event
  pub is : IsRecovery (after start w) events
  pub end : List Moment
  pub goes : GoesOnTo w (orders_of events) end
  pub world : IsWorld end
  pub stands : StandsAs db (after start end)

-- each recoverable state stands for where it stopped
abbrev pub LeavesRecovering : (Trees → Type 0) → List Moment → Type 0
LeavesRecovering finds w = (db : Trees) → finds db → Recovering w db

-- the desk answered: the world w went on to this end, and this was written
pub record Answering (held holds : Option (List ℕ)) (w : List Moment) (input : Input) (IsThere : State → Type 0)
    : Type 0 where
  pub told : List ℕ
  pub wrote : Appends held holds told
  pub end : List Moment
  pub answers : Answers w input told end
  pub world : IsWorld end
  pub there : IsThere (after start end)

-- each recoverable state stands for the end of such a world
abbrev pub LeavesAnswering : (Trees → Type 0) → Option (List ℕ) → Option (List ℕ) → List Moment → Input → Type 0
LeavesAnswering finds held holds w input =
    (db : Trees) → finds db → Answering held holds w input (StandsAs db)

-- an opening over this input went on from the world w to an end for which the connection stands
pub record HasOpened (held holds : Option (List ℕ)) (w : List Moment) (input : Input) (IsThere : State → Type 0)
    : Type 0 where
  pub end : List Moment
  pub goes : Reopens held holds input w end
  pub there : IsThere (after start end)
