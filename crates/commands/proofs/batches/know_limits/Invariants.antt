use Rattle.std.proofs.Common.{take, IsTrue}
use Rattle.std.specs.List.{list_all}
use Rattle.commands.specs.Batches.{is_good_row}
use Rattle.commands.proofs.batches.know_limits.Given as goal

-- the rows so far keep the limits
abbrev pub invariant-loop-row : goal.invariant-loop-row
invariant-loop-row l = IsTrue (list_all is_good_row (take l.row-index l.rows))
