-- The first cells got their places so far, and their texts fit.
use Rattle.std.proofs.Common.{take}
use Rattle.std.specs.List.{AllByRecursion}
use Rattle.sql_writes.specs.Did.{DidSoFar}
use Rattle.sql_writes.specs.Loads.{MayLoad, puts_each}
use Rattle.sql_writes.specs.Runs.{HasShortTexts}
use Rattle.sql_writes.proofs.loads.put_all.Given as goal

abbrev pub invariant-loop-cell : goal.invariant-loop-cell
invariant-loop-cell g l =
    record {
      short : AllByRecursion HasShortTexts (take l.cell-index l.cells);
      did : DidSoFar g.S.Store l.fn.tx.conn l.tx.conn MayLoad l.cell-index (puts_each (take l.cell-index l.cells));
    }
