use Rattle.std.proofs.Common.{refl, ap, length}
use Rattle.memory_book.proofs.UnfinishedLemmas.{counts-kept}
use Rattle.memory_book.proofs.mem_book.MemBookBook.counts.Goals as goal

-- the numbers that are kept are those of the ledger
pub returns-clause-counts : goal.returns-clause-counts
returns-clause-counts c _ s here =
    counts-kept c.args.self.now s _ here refl (ap length c.as_slice.ensures.value) c.unfinished_count.ensures.number
