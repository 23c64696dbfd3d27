use Rattle.std.proofs.Common.{◌≡◌, slice_get}
use Rattle.allotment_csv.specs.Reading.{IsReading, records_left}
use Rattle.allotment_csv.proofs.wrong_fields.record_after.Given as goal

-- so many records have yet to be passed, and the one that is looked for comes after them
abbrev pub invariant-loop-left : goal.invariant-loop-left
invariant-loop-left l =
    IsReading l.reader
    × (slice_get (records_left l.fn.reader) l.fn.passed ≡ slice_get (records_left l.reader) l.left)

-- one record less with each turn
abbrev pub decreases-loop-left : goal.decreases-loop-left
decreases-loop-left l = l.left
