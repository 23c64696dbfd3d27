-- How an execution goes on with asks, the next of which a crash may cut off. Every call of a book, and every session,
-- is such a continuation with its own asks; `Adds`, `Begins` and `Reopens` chain them.
use Rattle.std.specs.Prelude.{◌≡◌, Bool, List, [], ◌∷◌, ◌++◌, IsTrue}
use Rattle.ledger.specs.Answer.{start}
use Rattle.ledger.specs.World.{Moment, Reopened, after, IsWorld}
use Rattle.saga_core.specs.Runs.{Asks}
use Rattle.saga_core.specs.Worlds.{KeepLimits, Progress, is_whole, continued, crashed}

-- the execution after one more reopening
abbrev pub reopened : List Moment → List Moment
reopened w = w ++ Reopened ∷ []

-- the execution w goes on to v: a prefix of these asks was answered, and perhaps the next one was cut off
pub record GoesOnTo (w : List Moment) (asks : Asks) (v : List Moment) : Type 0 where
  pub progress : Progress asks
  pub was_kept : Bool
  pub goes : v ≡ crashed w progress was_kept

-- if all asks were answered, the execution went on with them
abbrev pub GoesOnAll : Type 0
GoesOnAll = (w : List Moment) (asks : Asks) → KeepLimits asks → GoesOnTo w asks (continued w asks [])

-- a crash may come at each point of a run
abbrev pub Crashes : Type 0
Crashes = (w : List Moment) (asks : Asks) (progress : Progress asks) (was_kept : Bool)
    → GoesOnTo w asks (crashed w progress was_kept)

-- a whole execution goes on to an execution
abbrev pub StaysWorld : Type 0
StaysWorld = (w : List Moment) (asks : Asks) (v : List Moment) → IsWorld w → IsTrue (is_whole w)
    → GoesOnTo w asks v → IsWorld v

-- a whole execution whose asks were all answered stays whole
abbrev pub StaysWhole : Type 0
StaysWhole = (w : List Moment) (asks : Asks) → IsTrue (is_whole w) → IsTrue (is_whole (continued w asks []))

-- a reopened execution is whole, and its state is as before
pub record IsReopened (w : List Moment) : Type 0 where
  pub world : IsWorld (reopened w)
  pub whole : IsTrue (is_whole (reopened w))
  pub same : after start (reopened w) ≡ after start w

-- each execution may be reopened
abbrev pub Reopens : Type 0
Reopens = (w : List Moment) → IsWorld w → IsReopened w

-- asks that were all answered, followed by a run of more asks, are a run of the two lists appended
abbrev pub Adds : Type 0
Adds = (w : List Moment) (first second : Asks) (v : List Moment) → KeepLimits first
    → GoesOnTo (continued w first []) second v → GoesOnTo w (first ++ second) v

-- a run of a prefix of the asks is a run of all of them
abbrev pub Begins : Type 0
Begins = (w : List Moment) (first second : Asks) (v : List Moment) → GoesOnTo w first v
    → GoesOnTo w (first ++ second) v
