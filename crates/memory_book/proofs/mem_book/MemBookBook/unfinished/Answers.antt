use Rattle.std.proofs.Common.{◌∙◌}
use Rattle.memory_book.proofs.UnfinishedLemmas.{unfinished-kept}
use Rattle.memory_book.proofs.mem_book.MemBookBook.unfinished.Goals as goal

-- the unfinished journeys are among those that are kept
pub returns-in-Ok-clause-briefs : goal.returns-in-Ok-clause-briefs
returns-in-Ok-clause-briefs c _ s here = c.in-Ok.ensures.briefs ∙ unfinished-kept c.args.self.now s here
