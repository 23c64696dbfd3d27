-- The rows so far are those of the first options, and the next ones those of the other options.
use Rattle.std.proofs.Common.{◌≡◌, ◌+◌, ◌≤◌, ◌++◌, ℕ, List, take, drop, length}
use Rattle.desk_sql.specs.Rows.{StepRow}
use Rattle.sql_reads.specs.PlanRows.{first_rows}
use Rattle.sql_model.specs.Beginning.{first_rows_of_step, rows_of_step}
use Rattle.sql_reads.proofs.plan_rows.after_step.Given as goal

abbrev pub invariant-loop-option : goal.invariant-loop-option
invariant-loop-option l =
    record {
      within : l.from + l.option ≤ length l.rows;
      told : (id : ℕ) → first_rows id (take (l.from + l.option) l.rows) ≡ first_rows id (take l.from l.rows) ++ first_rows_of_step id l.plan l.step l.option;
      left : (id : ℕ) (later : List StepRow) → first_rows id (drop l.from l.rows) ≡ rows_of_step id l.plan l.step ++ later → first_rows id (drop (l.from + l.option) l.rows) ≡ drop l.option (rows_of_step id l.plan l.step) ++ later;
    }
