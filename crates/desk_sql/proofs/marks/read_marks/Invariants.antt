-- The positions so far are those of the rows so far.
use Rattle.std.proofs.Common.{◌≡◌, map, take}
use Rattle.sqlite.specs.Order.{column}
use Rattle.desk_sql.specs.Rows.{whole}
use Rattle.desk_sql.proofs.marks.read_marks.Given as goal

abbrev pub invariant-loop-row : goal.invariant-loop-row
invariant-loop-row l = map whole l.marks.items ≡ map (λ r. column r 0) (take l.row-index l.rows)
