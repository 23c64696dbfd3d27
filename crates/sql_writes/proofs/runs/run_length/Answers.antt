-- One more cell is of the run.
use Rattle.std.proofs.Common.{arith, rules}
use Rattle.sql_writes.proofs.RunLemmas.{run-more}
use Rattle.sql_writes.proofs.runs.run_length.Goals as goal

pub loop-nights-preserved : goal.loop-nights-preserved
loop-nights-preserved c =
    let n = c.loop-nights.nights in
    let later = c.is_later.ensures.later (search rules) in
    run-more c.args.cells.now n _ _ later (omega arith) (omega arith) (search rules) (search rules) c.loop-nights.invariant
