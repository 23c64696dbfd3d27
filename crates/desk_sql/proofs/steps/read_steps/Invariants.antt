-- The options so far are those of the rows so far.
use Rattle.std.proofs.Common.{◌≡◌, map, take}
use Rattle.desk_sql.specs.FoundRows.{shows_step, ten_of}
use Rattle.desk_sql.proofs.steps.read_steps.Given as goal

abbrev pub invariant-loop-row : goal.invariant-loop-row
invariant-loop-row l = map shows_step l.steps.items ≡ map ten_of (take l.row-index l.rows)
