-- The items so far are those of the rows so far.
use Rattle.std.proofs.Common.{◌≡◌, map, take}
use Rattle.desk_sql.specs.FoundRows.{shows_item, four_of}
use Rattle.desk_sql.proofs.journeys.read_items.Given as goal

abbrev pub invariant-loop-row : goal.invariant-loop-row
invariant-loop-row l = map shows_item l.items.items ≡ map four_of (take l.row-index l.rows)
