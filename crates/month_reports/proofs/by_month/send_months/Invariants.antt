use Rattle.std.proofs.Common.{◌+◌, ◌-◌, ◌^◌, ◌≤◌, ◌<◌}
use Rattle.saga_core.specs.RowSources.{count_of}
use Rattle.reports.proofs.RowLemmas.{SoManyWritten}
use Rattle.month_reports.specs.MonthReports.{asked_months, month_shown}
use Rattle.month_reports.specs.Months.{AskedRest, MonthsRest}
use Rattle.month_reports.proofs.by_month.send_months.Given as goal

-- the first months were written, as many as were counted, and each took a cell
abbrev pub invariant-loop-next : goal.invariant-loop-next
invariant-loop-next g l =
    let source = g.R.RowSource in
    let contents = g.W.Write.contents in
    record {
      counted : l.count + (count_of l.next + source.given l.fn.rows) ≤ source.given l.rows;
      small : source.given l.rows < 2 ^ 64;
      written : SoManyWritten source l.fn.rows l.rows (asked_months l.filter) (MonthsRest (AskedRest l.filter (source.rests l.rows)) l.next)
          (month_shown l.report) (contents l.fn.out) (contents l.out) l.count;
    }

-- each month takes a cell, and fewer cells are returned than can be counted
abbrev pub decreases-loop-next : goal.decreases-loop-next
decreases-loop-next g l = 2 ^ 64 - l.count
