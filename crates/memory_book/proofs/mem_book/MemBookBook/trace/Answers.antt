use Rattle.std.proofs.Common.{Some, ap, sym, ◌∙◌, option_map}
use Rattle.ledger.specs.Ledger.{history}
use Rattle.saga_core.specs.Views.{brief_of_journey}
use Rattle.memory_book.proofs.StandLemmas.{brief_of-kept}
use Rattle.memory_book.proofs.mem_book.MemBookBook.trace.Goals as goal

-- there is no such journey
pub returns-in-None-clause-brief : goal.returns-in-None-clause-brief
returns-in-None-clause-brief c _ s here =
    ap (option_map (brief_of_journey c.args.id (history s.ledger c.args.id))) (sym (c.in-None.ensures s here))

-- what is kept of the journey is told
pub returns-in-Ok-clause-brief : goal.returns-in-Ok-clause-brief
returns-in-Ok-clause-brief c _ s here =
    ap Some c.brief-brief.ensures.brief
    ∙ sym (brief_of-kept s.ledger c.args.id c.in-Some.journey.now (c.in-Some.ensures s here))

-- the items are copied
pub returns-in-Ok-clause-items : goal.returns-in-Ok-clause-items
returns-in-Ok-clause-items c _ s here =
    c.in-Ok.ensures.items ∙ c.deref.ensures.value ∙ (c.in-Some.ensures s here).told.items
