use Rattle.std.proofs.Common.{◌-◌, ◌^◌, ◌≤◌}
use Rattle.reports.proofs.TakeLemmas.{Goes}
use Rattle.month_reports.proofs.MonthLemmas.{Passing}
use Rattle.month_reports.proofs.months.next_asked.Given as goal

-- no cell that was passed over is asked for
abbrev pub invariant-loop-row : goal.invariant-loop-row
invariant-loop-row g l =
    let source = g.R.RowSource in
    record {
      passing : source.is_sound l.rows → Passing l.filter (source.rests l.fn.rows) (source.rests l.rows);
      given : source.given l.fn.rows ≤ source.given l.rows;
      takes : Goes source l.fn.rows l.rows;
    }

-- fewer cells are returned than can be counted
abbrev pub decreases-loop-row : goal.decreases-loop-row
decreases-loop-row g l = 2 ^ 64 - g.R.RowSource.given l.rows
