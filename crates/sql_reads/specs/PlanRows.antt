-- When rows of options give a plan.
use Rattle.std.specs.Prelude.{◌≡◌, ◌≤◌, ◌<◌, ◌+◌, ℕ, suc, true, false, List, [], ◌∷◌, ◌++◌, map, flat_map, take, drop, length, get_or, string_bytes, IsTrue}
use Rattle.std.specs.List.{list_all}
use Rattle.allotment.specs.Want.{Wanted}
use Rattle.allotment.specs.Cells.{kind_number}
use Rattle.plan.specs.PlanModel.{Planned, StepPlan, is_plan, is_step, step_said}
use Rattle.plan.specs.declared.steps.PlanStep.{PlanStep}
use Rattle.desk_sql.specs.FoundRows.{step_of}
use Rattle.desk_sql.specs.Rows.{StepRow}
use Rattle.desk_sql.specs.declared.steps.StepFound.{StepFound}
use Rattle.sql_model.specs.ExpectedRows.{step_rows_of, counted_from, option_row, option_rows, none_taken}
use Rattle.sql_model.specs.Reading.{not_taken}
use Rattle.sql_model.specs.Beginning.{rows_of_option, rows_of_step}

-- the rows found of a journey, as they were at its begin
abbrev pub first_rows : ℕ → List StepFound → List StepRow
first_rows id found = map not_taken (map (step_of id) found)

-- the row is that of an option with this want
pub record TellsWant (row : StepFound) (want : Wanted) : Type 0 where
  pub kind : row.kind ≡ kind_number want.kind
  pub supplier : string_bytes row.supplier ≡ want.supplier
  pub product : string_bytes row.product ≡ want.product
  pub first : row.night ≡ want.first
  pub nights : row.nights ≡ want.nights
  pub places : row.places ≡ want.count

-- the row is that of this option of a plan
abbrev pub TellsOption : StepFound → Planned → ℕ → ℕ → Type 0
TellsOption row plan i c = (id : ℕ) → rows_of_option id plan i c ≡ first_rows id (row ∷ [])

-- the rows from `from` up to `to` are those of this step
pub record TellStep (rows : List StepFound) (from : ℕ) (plan : Planned) (i to : ℕ) : Type 0 where
  pub within : to ≤ length rows
  pub told : (id : ℕ)
      → first_rows id (take to rows) ≡ first_rows id (take from rows) ++ rows_of_step id plan i

-- the row at this index is of the step with this number
pub record IsOfPlace (rows : List StepFound) (at place : ℕ) : Type 0 where
  pub row : StepFound
  pub inside : at < length rows
  pub there : row ≡ get_or rows at row
  pub same : row.place ≡ place

-- the rows are just those of a plan
abbrev pub TellPlan : List StepFound → Planned → Type 0
TellPlan rows plan = (id : ℕ) → step_rows_of id plan ≡ first_rows id rows

-- the rows from `from` on begin with those of this step
abbrev pub BeginWithStep : ℕ → List StepFound → ℕ → Planned → ℕ → Type 0
BeginWithStep id rows from plan i =
    (later : List StepRow) × (first_rows id (drop from rows) ≡ rows_of_step id plan i ++ later)

-- the rows are just those of a plan that keeps the limits, whichever of its options are taken
pub record AreRowsOf (id : ℕ) (plan : Planned) (rows : List StepFound) : Type 0 where
  pub good : IsTrue (is_plan plan)
  pub rows_are : step_rows_of id plan ≡ first_rows id rows

-- the rows of the steps of a plan after the first ones
abbrev pub steps_after : ℕ → Planned → ℕ → List StepRow
steps_after id plan n =
    flat_map (λ (s : ℕ × StepPlan). option_rows none_taken id s.0 s.1) (drop n (counted_from 1 plan.steps))

-- The rows that are left are those of these steps, of which the first has the number `k`. Some of its options were built
-- already, and at least one was not.
abbrev pub IsLeft : ℕ → ℕ → List Wanted → List StepPlan → List StepRow → Type 0
IsLeft id k options [] left = (options ≡ []) × (left ≡ [])
IsLeft id k options (s ∷ later) left =
    (w : Wanted) × (ws : List Wanted) × (s.options ≡ options ++ (w ∷ ws))
    × (left
    ≡ map (λ (v : ℕ × Wanted). option_row id k s.is_marked v.0 false v.1) (counted_from (length options + 1) (w ∷ ws))
    ++ flat_map (λ (t : ℕ × StepPlan). option_rows none_taken id t.0 t.1) (counted_from (suc k) later))

-- of a plan these steps were built, and these options of the next one; the rows from `at` on are left
pub record Goes (id : ℕ) (plan : Planned) (rows : List StepFound) (at : ℕ) (steps : List PlanStep) (options : List Wanted)
    : Type 0 where
  pub later : List StepPlan
  pub steps_are : plan.steps ≡ map step_said steps ++ later
  pub good : list_all is_step later ≡ true
  pub left : IsLeft id (length steps + 1) options later (first_rows id (drop at rows))
