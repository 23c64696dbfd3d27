use Rattle.std.proofs.Common.{◌≡◌, drop}
use Rattle.commands.specs.CellKeys.{rises, rises_above}
use Rattle.commands.proofs.batches.are_rising.Given as goal

-- the rows rise where those left do, above the last one
abbrev pub invariant-loop-row : goal.invariant-loop-row
invariant-loop-row l = rises l.rows ≡ rises_above l.last (drop l.row-index l.rows)
