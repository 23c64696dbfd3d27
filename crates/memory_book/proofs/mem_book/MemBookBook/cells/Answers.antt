use Rattle.std.proofs.Common.{◌∙◌}
use Rattle.memory_book.proofs.RowLemmas.{places_shown-stock}
use Rattle.memory_book.proofs.mem_book.MemBookBook.cells.Goals as goal

-- the nights that the stock shows
pub returns-in-Ok-clause-cells : goal.returns-in-Ok-clause-cells
returns-in-Ok-clause-cells c _ s here =
    c.in-Ok.ensures.nights
    ∙ places_shown-stock s.ledger c.args.self.now.stock c.args.want.now here.stock
