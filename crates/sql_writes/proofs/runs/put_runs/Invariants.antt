-- The cells before those that are left got their places so far, and their texts fit. Each run leaves fewer.
use Rattle.std.proofs.Common.{length}
use Rattle.std.specs.List.{AllByRecursion}
use Rattle.sql_writes.specs.Loads.{MayLoad, puts_each}
use Rattle.sql_writes.specs.Runs.{HasWrittenUpTo, HasShortTexts}
use Rattle.sql_writes.proofs.runs.put_runs.Given as goal

abbrev pub invariant-loop-rest : goal.invariant-loop-rest
invariant-loop-rest g l =
    record {
      put : HasWrittenUpTo g.S.Store l.fn.tx.conn l.tx.conn MayLoad puts_each l.cells l.rest;
      short : AllByRecursion HasShortTexts put.done;
    }

abbrev pub decreases-loop-rest : goal.decreases-loop-rest
decreases-loop-rest g l = length l.rest
