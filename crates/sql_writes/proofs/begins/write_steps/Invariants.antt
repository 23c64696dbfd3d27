-- The rows of the first steps are written so far.
use Rattle.std.specs.Prelude.{⊤, ◌≡◌, length}
use Rattle.plan.specs.PlanModel.{step_count}
use Rattle.sql_model.specs.ExpectedRows.{step_rows_of}
use Rattle.sql_model.specs.Beginning.{adds_steps, first_steps}
use Rattle.sql_writes.specs.Did.{DidSoFar}
use Rattle.sql_writes.proofs.begins.write_steps.Given as goal

abbrev pub invariant-loop-step : goal.invariant-loop-step
invariant-loop-step g l =
    record {
      bound : l.step-end ≡ step_count l.plan;
      did : DidSoFar g.S.Store l.fn.tx.conn l.tx.conn (λ _. ⊤) (length (step_rows_of l.numbers.journeys (first_steps l.step l.plan)))
          (adds_steps (step_rows_of l.numbers.journeys (first_steps l.step l.plan)));
    }
