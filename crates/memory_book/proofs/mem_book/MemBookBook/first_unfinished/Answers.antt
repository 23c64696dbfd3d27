use Rattle.std.proofs.Common.{ap, ◌∙◌, find}
use Rattle.saga_core.specs.Views.{is_unfinished_above}
use Rattle.memory_book.proofs.UnfinishedLemmas.{briefs-kept}
use Rattle.memory_book.proofs.mem_book.MemBookBook.first_unfinished.Goals as goal

-- the first journey is the first of those that are kept
pub returns-clause-first : goal.returns-clause-first
returns-clause-first c _ s here =
    c.unfinished_above.ensures.first ∙ ap (find (is_unfinished_above c.args.after)) (briefs-kept c.args.self.now s here)
