use Rattle.std.proofs.Common.{sym, ◌∙◌}
use Rattle.ledger.proofs.Events.{history-none}
use Rattle.memory_book.proofs.mem_book.MemBookBook.history.Goals as goal

-- there is no such journey
pub returns-in-None-clause-items : goal.returns-in-None-clause-items
returns-in-None-clause-items c _ s here =
    c.new.ensures.items ∙ sym (history-none s.ledger c.args.id here.legal (c.in-None.ensures s here))

-- the items are copied
pub returns-in-Ok-clause-items : goal.returns-in-Ok-clause-items
returns-in-Ok-clause-items c _ s here =
    c.in-Ok.ensures.items ∙ c.deref.ensures.value ∙ (c.in-Some.ensures s here).told.items
