-- The rows so far are those of the first steps, and the next ones those of the other steps.
use Rattle.std.proofs.Common.{◌≡◌, ◌≤◌, ℕ, take, drop, length}
use Rattle.sql_model.specs.ExpectedRows.{step_rows_of}
use Rattle.sql_model.specs.Beginning.{first_steps}
use Rattle.sql_reads.specs.PlanRows.{first_rows, steps_after}
use Rattle.sql_reads.proofs.plan_rows.are_of_plan.Given as goal

abbrev pub invariant-loop-step : goal.invariant-loop-step
invariant-loop-step l =
    record {
      within : l.count ≤ length l.rows;
      told : (id : ℕ) → first_rows id (take l.count l.rows) ≡ step_rows_of id (first_steps l.step l.plan);
      left : (id : ℕ) → step_rows_of id l.plan ≡ first_rows id l.rows → first_rows id (drop l.count l.rows) ≡ steps_after id l.plan l.step;
    }
