-- The row that is returned is the first of those that remained.
use Rattle.std.proofs.Common.{Err, ap, arith, refl}
use Rattle.report_writers.proofs.HandedRows.{going}
use Rattle.report_writers.proofs.ReadyLemmas.{fails_by, ready_fails, ready_on}
use Rattle.report_writers.proofs.found_rows.FoundRowsRowSource.next_row.Goals as goal

pub returns-else-given-clause-next : goal.returns-else-given-clause-next
returns-else-given-clause-next g c clean rows rests = grind (arith, going, c.in-Ok-Some.ensures.next)

pub returns-in-Ok-None-clause-next : goal.returns-in-Ok-None-clause-next
returns-in-Ok-None-clause-next g c clean rows rests = grind (arith, going, c.in-Ok-None.ensures.next)

-- the later rows can be read too, or something failed
pub returns-else-given-clause-reason : goal.returns-else-given-clause-reason
returns-else-given-clause-reason g c first clean ready =
    ready_on g.S.Store ready c.next_found.ensures.under.quiet clean (λ good. (refl, c.in-Ok-Some.ensures.good clean good.1))

pub returns-in-Ok-None-clause-reason : goal.returns-in-Ok-None-clause-reason
returns-in-Ok-None-clause-reason g c first clean ready =
    ready_on g.S.Store ready c.next_found.ensures.under.quiet clean (λ good. (refl, c.in-Ok-None.ensures.good clean good.1))

-- the row could not be read, for a reason
pub returns-in-Err-clause-reason : goal.returns-in-Err-clause-reason
returns-in-Err-clause-reason g c first clean ready =
    fails_by _ (λ store. ready_fails g.S.Store ready c.next_found.ensures.under.quiet (λ good up. c.in-Err.ensures.store clean good.1 up (ap Err store)))
