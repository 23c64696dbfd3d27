-- The steps so far are those of the plan, and so are the options of the next one.
use Rattle.std.proofs.Common.{ℕ}
use Rattle.plan.specs.PlanModel.{Planned}
use Rattle.sql_reads.specs.PlanRows.{AreRowsOf, Goes}
use Rattle.sql_reads.proofs.plan_rows.steps_told.Given as goal

abbrev pub invariant-loop-at : goal.invariant-loop-at
invariant-loop-at l = (id : ℕ) (plan : Planned) → AreRowsOf id plan l.rows → Goes id plan l.rows l.at l.steps.items l.options.items
