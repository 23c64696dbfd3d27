use Rattle.std.proofs.Common.{refl}
use Rattle.std.specs.Option.{option_copied}
use Rattle.commands.specs.declared.replies.Refusal.TheVariants.{NoJourney}
use Rattle.ledger.specs.Answer.{asker}
use Rattle.memory_book.proofs.GrowthLemmas.{carried_out-refused}
use Rattle.memory_book.proofs.StepLemmas.{motion-good, motion-move, motion-unseen}
use Rattle.memory_book.proofs.mem_book.MemBook.go.Goals as goal

-- the asker sees no such journey
pub returns-in_default : goal.returns-in_default
returns-in_default c s here =
    let ask = option_copied c.args.ask in
    carried_out-refused c.args.self.now s ask _ NoJourney here
    (motion-unseen s.ledger (asker ask) c.args.id c.args.motion (c.in_default.ensures.none s here)) _ refl

-- what is kept of the journey gives what the rules answer
pub returns : goal.returns
returns c s here =
    c.carry_out.ensures s here _ (motion-good c.args.motion c.args.id)
    (motion-move c.args.self.now (asker (option_copied c.args.ask)) s c.args.id c.in-Some.place c.index.result.now c.args.motion
    c.moved_by-next.result c.next_fits-fits.result here c.in-Some.ensures.seen c.index.ensures c.moved_by-next.ensures.said
    c.next_fits-fits.ensures.fits)
