-- The rows of the cells before those that are left are added so far, and those that are left are a run. Each step leaves fewer.
use Rattle.std.specs.Prelude.{⊤, length}
use Rattle.sql_writes.specs.Runs.{HasWrittenUpTo, IsRun, adds_each}
use Rattle.sql_writes.proofs.runs.add_run.Given as goal

abbrev pub invariant-loop-rest : goal.invariant-loop-rest
invariant-loop-rest g l =
    record { run : IsRun l.rest; added : HasWrittenUpTo g.S.Store l.fn.tx.conn l.tx.conn (λ _. ⊤) adds_each l.run l.rest }

abbrev pub decreases-loop-rest : goal.decreases-loop-rest
decreases-loop-rest g l = length l.rest
