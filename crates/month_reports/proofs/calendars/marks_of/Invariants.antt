-- Each day has the mark of the nights that were gone through, which are the last ones.
use Rattle.std.proofs.Common.{◌≡◌, length, map, reverse}
use Rattle.month_reports.proofs.CalendarLemmas.{Shows}
use Rattle.month_reports.proofs.calendars.marks_of.Given as goal

abbrev pub invariant-loop-row : goal.invariant-loop-row
invariant-loop-row l =
    record {
      long : length l.marks ≡ 31;
      shown : Shows l.marks (reverse (map (λ row. row.now) l.yielded));
    }
