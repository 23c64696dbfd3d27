-- How the worlds of a connection go on with one opening: what is recoverable after it, and what the connection stands for.
use Rattle.std.specs.Prelude.{ℕ, List, Option}
use Rattle.sqlite.specs.Tree.{Trees}
use Rattle.sqlite.specs.Store.{Ghosts}
use Rattle.sqlite.specs.Held.{Held, state}
use Rattle.ledger.specs.Answer.{State, start}
use Rattle.ledger.specs.World.{Moment, after, IsWorld}
use Rattle.saga_core.specs.Chains.{IsReopened, reopened}
use Rattle.saga_core.specs.Worlds.{StandsAtEnd}
use Rattle.recovery.specs.Recovers.{HasOneRecovery}
use Rattle.sql_model.specs.Standing.{IsDesk}
use Rattle.desk_jobs.specs.Openings.{Input}
use Rattle.desk_jobs.specs.Chains.{LeadsEach, StandsAs}
use Rattle.desk_jobs.specs.Stages.{Answering, HasOpened, HasRecovered, LeavesAnswering, LeavesRecovering, Stood}

-- A world may be reopened: that changes nothing, and its desk has one recovery.
pub record MayReopen (w : List Moment) : Type 0 where
  pub again : IsReopened w
  pub desk : IsDesk (after start w)
  pub one : HasOneRecovery (after start w)

-- each world may be
abbrev pub EachMayReopen : Type 0
EachMayReopen = (w : List Moment) → IsWorld w → MayReopen w

module _ {S : Type 0} (g : Ghosts S) (old : Held S) where
  -- each world at whose end the connection stood is such
  abbrev pub OfEachWorld : (List Moment → Type 0) → Type 0
  OfEachWorld So = (w : List Moment) → IsWorld w → Stood (state g old) (after start w) → So w

  -- the desk was opened and recovered, and its book stands for that
  abbrev pub HasComeUp : (State → Type 0) → Type 0
  HasComeUp stands = OfEachWorld (λ w. HasRecovered stands (reopened w))

module _ {S : Type 0} (g : Ghosts S) (old new : Held S) where
  -- the desk was not opened, or not recovered, and each recoverable state stands for where that stopped
  abbrev pub HasNotComeUp : Type 0
  HasNotComeUp = OfEachWorld g old (λ w. LeavesRecovering (state g new).may_leave (reopened w))

  -- nobody asked anything of it: each recoverable state stands for the same
  abbrev pub StandsStill : Type 0
  StandsStill = OfEachWorld g old (λ w. (db : Trees) → (state g new).may_leave db → StandsAs db (after start w))

  module _ (held holds : Option (List ℕ)) (input : Input) where
    -- each recoverable state after one opening over the input stands for the end of the world that goes on with it
    abbrev pub LeavesOpened : Type 0
    LeavesOpened = OfEachWorld g old (LeadsEach (state g new).may_leave held holds input)

    -- and so does the connection itself
    abbrev pub StandsOpened : Type 0
    StandsOpened = OfEachWorld g old (λ w. HasOpened held holds w input (Stood (state g new)))

-- The same of a desk that is recovered: of the states for which its book stood.
module _ {S : Type 0} (g : Ghosts S) (stands : State → Type 0) (new : Held S) (held holds : Option (List ℕ))
    (input : Input) where
  abbrev pub LeavesAnswered : Type 0
  LeavesAnswered =
      (w : List Moment) → StandsAtEnd stands w → LeavesAnswering (state g new).may_leave held holds w input

  abbrev pub StandsAnswered : Type 0
  StandsAnswered = (w : List Moment) → StandsAtEnd stands w → Answering held holds w input (Stood (state g new))
