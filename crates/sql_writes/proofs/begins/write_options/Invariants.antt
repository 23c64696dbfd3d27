-- The rows of the first options are written so far.
use Rattle.std.specs.Prelude.{⊤, ◌≡◌, ◌+◌, length}
use Rattle.plan.specs.PlanModel.{option_count}
use Rattle.sql_model.specs.Beginning.{adds_steps, first_rows_of_step}
use Rattle.sql_writes.specs.Did.{DidSoFar}
use Rattle.sql_writes.proofs.begins.write_options.Given as goal

abbrev pub invariant-loop-option : goal.invariant-loop-option
invariant-loop-option g l =
    record {
      bound : l.option-end ≡ option_count l.plan (l.before + 1);
      did : DidSoFar g.S.Store l.fn.tx.conn l.tx.conn (λ _. ⊤) (length (first_rows_of_step l.numbers.journeys l.plan (l.before + 1) l.option))
          (adds_steps (first_rows_of_step l.numbers.journeys l.plan (l.before + 1) l.option));
    }
