-- The nights so far are those of the rows so far.
use Rattle.std.proofs.Common.{take}
use Rattle.sql_reads.specs.Reading.{TellNights}
use Rattle.sql_reads.proofs.telling.nights_told.Given as goal

abbrev pub invariant-loop-row : goal.invariant-loop-row
invariant-loop-row l = TellNights (take l.row-index l.found) l.nights.items
