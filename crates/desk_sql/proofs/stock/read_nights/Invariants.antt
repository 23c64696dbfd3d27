-- The nights so far are those of the rows so far.
use Rattle.std.proofs.Common.{◌≡◌, map, take}
use Rattle.desk_sql.specs.FoundRows.{three_of}
use Rattle.desk_sql.specs.Stock.{shows_night}
use Rattle.desk_sql.proofs.stock.read_nights.Given as goal

abbrev pub invariant-loop-row : goal.invariant-loop-row
invariant-loop-row l = map shows_night l.nights.items ≡ map three_of (take l.row-index l.rows)
