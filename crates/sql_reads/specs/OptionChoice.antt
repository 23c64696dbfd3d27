-- The next option of a step, and the one that was taken last.
use Rattle.std.specs.Prelude.{◌≡◌, ◌≤◌, ◌+◌, ◌-◌, ◌==◌, ℕ, Bool, List, Some, find, length, min, slice_get, IsTrue}
use Rattle.std.specs.List.{AllByRecursion}
use Rattle.allotment.specs.Limits.{is_want}
use Rattle.allotment.specs.Want.{Wanted}
use Rattle.plan.specs.Limits.{most_options}
use Rattle.plan.specs.PlanModel.{step_count, option_count, want_at}
use Rattle.ledger.specs.Answer.{State}
use Rattle.ledger.specs.History.{net, last_of}
use Rattle.ledger.specs.Ledger.{Journey, journey_at, history}
use Rattle.desk_sql.specs.declared.steps.StepFound.{StepFound}
use Rattle.sql_reads.specs.PlanRows.{TellsWant}
use Rattle.sql_reads.specs.declared.plan_rows.Choice.{Choice}

-- the choice is this option, and its want that of the row
pub record IsOfRow (row : StepFound) (option : ℕ) (choice : Choice) : Type 0 where
  pub option_is : choice.option ≡ option
  pub want : TellsWant row choice.want

-- the row with this number, from 1, is chosen of these rows
pub record IsRowChosen (rows : List StepFound) (option : ℕ) (choice : Choice) : Type 0 where
  pub row : StepFound
  pub from_one : 1 ≤ option
  pub there : slice_get rows (option - 1) ≡ Some row
  pub is : IsOfRow row option choice

-- the row is that of an option that is taken
abbrev pub is_taken_row : StepFound → Bool
is_taken_row row = row.taken == 1

-- the first row of a taken option is chosen of these rows
pub record IsTakenChosen (rows : List StepFound) (choice : Choice) : Type 0 where
  pub row : StepFound
  pub there : find is_taken_row rows ≡ Some row
  pub is : IsOfRow row row.opt choice

-- the option that the journey takes at this step, after so many of its steps were refused, with its want
abbrev pub IsNextChoice : ℕ → ℕ → ℕ → State → Choice → Type 0
IsNextChoice id step used s choice =
    (a : Journey) → journey_at s.ledger id ≡ Some a → 1 ≤ step → step ≤ step_count a.plan
    → (choice.option ≡ min (used + 1) (option_count a.plan step))
    × (want_at a.plan step choice.option ≡ Some choice.want)

-- if this is the last step of the journey that stands, it took this option, with this want
abbrev pub IsLastChoice : ℕ → ℕ → State → Choice → Type 0
IsLastChoice id step s choice =
    (a : Journey) (c : ℕ) → journey_at s.ledger id ≡ Some a
    → last_of (net (history s.ledger id)) ≡ Some (step, c)
    → (choice.option ≡ c) × (want_at a.plan step c ≡ Some choice.want)

-- What the rows of a step of a plan are, so that an option of them is chosen.

-- the row tells a want
pub record IsOfOption (row : StepFound) : Type 0 where
  pub want : Wanted
  pub good : IsTrue (is_want want)
  pub told : TellsWant row want

-- there is a row, at most one for each option that a step may have, and each tells a want
pub record AreOfStep (rows : List StepFound) : Type 0 where
  pub some : 1 ≤ length rows
  pub few : length rows ≤ most_options
  pub wants : AllByRecursion IsOfOption rows

-- a row of an option that a step may have is marked as taken, and each such row tells a want
pub record HasTaken (rows : List StepFound) : Type 0 where
  pub row : StepFound
  pub there : find is_taken_row rows ≡ Some row
  pub few : row.opt ≤ most_options
  pub want : IsOfOption row

-- the journey of this number has this step
pub record HasStep (id step : ℕ) (s : State) : Type 0 where
  pub journey : Journey
  pub at : journey_at s.ledger id ≡ Some journey
  pub from_one : 1 ≤ step
  pub within : step ≤ step_count journey.plan

-- this is the last step of the journey of this number that stands
pub record TakesLast (id step : ℕ) (s : State) : Type 0 where
  pub journey : Journey
  pub at : journey_at s.ledger id ≡ Some journey
  pub option : ℕ
  pub last : last_of (net (history s.ledger id)) ≡ Some (step, option)
