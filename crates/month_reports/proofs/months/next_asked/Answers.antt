-- Cells are passed over until one is asked for, or the source has none left.
use Rattle.std.proofs.Common.{arith}
use Rattle.reports.proofs.TakeLemmas.{given_one, takes_none, takes_twice}
use Rattle.month_reports.proofs.MonthLemmas.{asked_none, asked_some, passes_more, passes_none}
use Rattle.month_reports.proofs.months.next_asked.Goals as goal

-- none was passed over
pub loop-row-init : goal.loop-row-init
loop-row-init g c = grind (arith, passes_none, takes_none)

-- one more was
pub loop-row-preserved : goal.loop-row-preserved
loop-row-preserved g c = record {
  passing = λ sound. grind (arith, passes_more, c.next_row.ensures.sound, c.in_ok-row.ensures.next);
  given = omega (arith, given_one _ _ c.in_ok-row.ensures.counted c.in-Some.is, c.loop-row.invariant.given);
  takes = takes_twice g.R.RowSource g.met.R.RowSource.joins c.loop-row.invariant.takes
      (record { kept = c.next_row.ensures.kept; sound = c.next_row.ensures.sound; reason = c.in_ok-row.ensures.reason });
}

-- one is asked for
pub returns-then-lets-clause-next : goal.returns-then-lets-clause-next
returns-then-lets-clause-next g c sound = grind (arith, asked_some, c.next_row.ensures.sound, c.in_ok-row.ensures.next)

-- none is left
pub returns-clause-next : goal.returns-clause-next
returns-clause-next g c sound = grind (arith, asked_none, c.next_row.ensures.sound, c.in_ok-row.ensures.next)
