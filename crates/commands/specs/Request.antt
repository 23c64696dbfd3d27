-- Requests to the desk. Positions and journeys are numbers; a batch is its name and its rows.
use Rattle.std.specs.Prelude.{ℕ, List}
use Rattle.allotment.specs.declared.cells.Row.{Row}
use Rattle.plan.specs.PlanModel.{Planned}

pub data Request : Type 0 where
  -- set the allotments of these cells, under this name
  Load : (name : List ℕ) (rows : List Row) → Request
  -- begin a journey
  Begin : (plan : Planned) → Request
  -- do the next step of a journey, or its next compensation
  Step : (journey : ℕ) → Request
  -- turn a journey back to a position
  Abort : (journey position : ℕ) → Request
  -- turn a running journey back to its last save-point, as recovery does
  Stop : (journey : ℕ) → Request
  -- take a save-point where a journey is
  Save : (journey : ℕ) → Request
