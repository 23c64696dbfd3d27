-- At least the cell's night is read, and no more than the most nights.
use Rattle.std.proofs.Common.{◌≤◌}
use Rattle.sql_reads.proofs.nights_read.nights_together.Given as goal

abbrev pub invariant-loop-row : goal.invariant-loop-row
invariant-loop-row l =
    record {
      some : 1 ≤ l.count;
      few : l.count ≤ 64;
    }
