use Rattle.std.proofs.Common.{sym, subst, IfOk}
use Rattle.memory_book.specs.MemoryJourneys.{IsNext}
use Rattle.plan.proofs.LimitLemmas.{few_steps}
use Rattle.memory_book.proofs.ReadyLemmas.{save_said-next}
use Rattle.memory_book.proofs.next.moved_by.Goals as goal

-- a running journey has not reached its last step, and a plan has few steps
pub returns-in-Save-clause-next : goal.returns-in-Save-clause-next
returns-in-Save-clause-next c =
    let journey = c.args.journey.now in
    subst (λ r. IfOk r (IsNext journey.plan journey.cursor)) (sym c.saved.ensures.said)
    (save_said-next journey.plan journey.cursor journey.marks journey.taken.items journey.placed
    (few_steps journey.plan c.steps-steps.ensures.limits))
