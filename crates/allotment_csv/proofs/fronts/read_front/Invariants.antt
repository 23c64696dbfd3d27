use Rattle.std.proofs.Common.{◌≡◌, ◌≤◌, ◌-◌, length, vec_len}
use Rattle.commands.specs.Limits.{most_rows}
use Rattle.allotment_csv.specs.Reading.{IsReading, records_left}
use Rattle.allotment_csv.proofs.FrontLemmas.{IsReadTo}
use Rattle.allotment_csv.proofs.fronts.read_front.Given as goal

-- the records so far are rows, at most as many as a file may have, and the reader has the others left
abbrev pub invariant-loop-reader : goal.invariant-loop-reader
invariant-loop-reader l =
    IsReading l.reader × IsReadTo (records_left l.fn.reader) (records_left l.reader) l.rows.items
    × (length l.rows.items ≡ vec_len l.rows) × (vec_len l.rows ≤ most_rows)

-- so many more rows may be read
abbrev pub decreases-loop-reader : goal.decreases-loop-reader
decreases-loop-reader l = most_rows - vec_len l.rows
