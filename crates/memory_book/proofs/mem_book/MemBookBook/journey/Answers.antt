use Rattle.std.proofs.Common.{Some, ap, sym, ◌∙◌, option_map}
use Rattle.ledger.specs.Ledger.{history}
use Rattle.saga_core.specs.Views.{record_of_journey}
use Rattle.memory_book.proofs.StandLemmas.{record_of-kept}
use Rattle.memory_book.proofs.mem_book.MemBookBook.journey.Goals as goal

-- there is no such journey
pub returns-in-None-clause-journey : goal.returns-in-None-clause-journey
returns-in-None-clause-journey c _ s here =
    ap (option_map (record_of_journey (history s.ledger c.args.id))) (sym (c.in-None.ensures s here))

-- what is kept of the journey is copied
pub returns-in-Ok-clause-journey : goal.returns-in-Ok-clause-journey
returns-in-Ok-clause-journey c _ s here =
    ap Some c.in-Ok.ensures.shown
    ∙ sym (record_of-kept s.ledger c.args.id c.in-Some.journey.now (c.in-Some.ensures s here))
