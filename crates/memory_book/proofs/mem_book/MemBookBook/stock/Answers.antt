use Rattle.std.proofs.Common.{subst, sym}
use Rattle.saga_core.specs.Views.{IsStock}
use Rattle.memory_book.proofs.RowLemmas.{IsStock-rows}
use Rattle.memory_book.proofs.mem_book.MemBookBook.stock.Goals as goal

-- all cells are listed
pub returns-in-Ok-clause-stock : goal.returns-in-Ok-clause-stock
returns-in-Ok-clause-stock c _ s here =
    subst (IsStock s.ledger) (sym c.in-Ok.ensures.rows)
    (IsStock-rows s.ledger c.args.self.now.stock here.stock c.in-Ok.ensures.ordered)
