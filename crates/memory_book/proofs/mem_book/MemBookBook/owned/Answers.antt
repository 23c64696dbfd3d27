use Rattle.std.proofs.Common.{ap, ◌∙◌, filter, take}
use Rattle.saga_core.specs.Views.{is_owned_above}
use Rattle.memory_book.proofs.UnfinishedLemmas.{briefs-kept}
use Rattle.memory_book.proofs.mem_book.MemBookBook.owned.Goals as goal

-- the agent's journeys are among those that are kept
pub returns-in-Ok-clause-owned : goal.returns-in-Ok-clause-owned
returns-in-Ok-clause-owned c _ s here =
    c.in-Ok.ensures.briefs
    ∙ ap (λ bs. take c.args.most (filter (is_owned_above c.args.agent.now c.args.after) bs)) (briefs-kept c.args.self.now s here)
