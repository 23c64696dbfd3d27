-- The first cells are a run.
use Rattle.std.proofs.Common.{take}
use Rattle.sql_writes.specs.Runs.{IsRun}
use Rattle.sql_writes.proofs.runs.run_length.Given as goal

abbrev pub invariant-loop-nights : goal.invariant-loop-nights
invariant-loop-nights l = IsRun (take l.nights l.cells)
