use Rattle.std.proofs.Common.{◌-◌, ◌^◌, ◌≤◌, length}
use Rattle.allotment.specs.Nights.{date_of}
use Rattle.month_reports.specs.Months.{AskedRest}
use Rattle.reports.proofs.TakeLemmas.{Goes}
use Rattle.month_reports.proofs.MonthLemmas.{Begins, Reading}
use Rattle.month_reports.proofs.months.read_month.Given as goal

-- the cells that were read are the beginning of a month, of which the last one's day is not before their number
abbrev pub invariant-loop-cells : goal.invariant-loop-cells
invariant-loop-cells g l =
    let source = g.R.RowSource in
    record {
      begun : Begins l.cells.items l.last.0;
      reading : source.is_sound l.rows
          → Reading (AskedRest l.filter (source.rests l.fn.rows)) (AskedRest l.filter (source.rests l.rows)) l.fn.first l.cells.items;
      few : length l.cells.items ≤ 31;
      days : length l.cells.items ≤ (date_of l.last.0.night).1.1;
      given : source.given l.fn.rows ≤ source.given l.rows;
      takes : Goes source l.fn.rows l.rows;
    }

-- fewer cells are returned than can be counted
abbrev pub decreases-loop-cells : goal.decreases-loop-cells
decreases-loop-cells g l = 2 ^ 64 - g.R.RowSource.given l.rows
