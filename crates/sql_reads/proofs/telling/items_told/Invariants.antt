-- The items so far are those of the rows so far.
use Rattle.std.proofs.Common.{take}
use Rattle.sql_reads.specs.Reading.{TellItems}
use Rattle.sql_reads.proofs.telling.items_told.Given as goal

abbrev pub invariant-loop-row : goal.invariant-loop-row
invariant-loop-row l = TellItems (take l.row-index l.found) l.items.items
