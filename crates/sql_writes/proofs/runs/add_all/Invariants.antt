-- The rows of the first cells are added so far.
use Rattle.std.specs.Prelude.{⊤, take}
use Rattle.sql_writes.specs.Did.{DidSoFar}
use Rattle.sql_writes.specs.Runs.{adds_each}
use Rattle.sql_writes.proofs.runs.add_all.Given as goal

abbrev pub invariant-loop-cell : goal.invariant-loop-cell
invariant-loop-cell g l =
    DidSoFar g.S.Store l.fn.tx.conn l.tx.conn (λ _. ⊤) l.cell-index (adds_each (take l.cell-index l.cells))
