-- What a connection keeps of a desk, and what a crash may leave of it.
use Rattle.std.specs.Prelude.{◌≡◌, ℕ, Bool, false, Option}
use Rattle.std.proofs.Common.{inl}
use Rattle.sqlite.specs.State.{State as Connected}
use Rattle.ledger.specs.Answer.{State}
use Rattle.sql_model.specs.Standing.{IsDesk}
use Rattle.tables.specs.FinishedJourneys.{AreFinishedTo}
use Rattle.tables.specs.UnfinishedCount.{IsCount}
pub use Rattle.sql_model.specs.Keeping.{MeansDesk, MeansNew, Means, MeansOf, Leaves, SeesDesk, SeesOf, SeesNew, IsKept, IsKeptIn, Keeps, KeepsIn, MayLeave, IsFound, StoodFor}

-- a book that has not failed, over a connection that keeps the state of a desk, and that knows so many journeys to have
-- finished, and how many have not, if they were counted
pub record Stands (failed : Bool) (finished : ℕ) (unfinished : Option ℕ) (c : Connected) (s : State) : Type 0 where
  pub working : failed ≡ false
  pub known : AreFinishedTo s.ledger finished
  pub counted : IsCount s.ledger unfinished
  pub desk : IsDesk s
  pub keeps : Keeps c s

-- if a book represents a state, a crash leaves just that state
pub settles : {failed : Bool} {finished : ℕ} {unfinished : Option ℕ} {c : Connected} {s : State}
    → Stands failed finished unfinished c s → MayLeave c s s
settles h clean db may = inl ((h.keeps clean).leaves db may)
