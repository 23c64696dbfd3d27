use Rattle.std.proofs.Common.{ap, refl, sym}
use Rattle.ledger.proofs.Taken.{marks_of-begin}
use Rattle.memory_book.proofs.JourneyLemmas.{phase-begun}
use Rattle.memory_book.proofs.journeys.Journey.new.Goals as goal

-- the journey has made no item
pub returns-clause-told : goal.returns-clause-told
returns-clause-told c = record {
  number = refl;
  items = c.new-2.ensures.items;
  cursor =
      ap (λ ph. record { pos = 0; phase = ph; used = 0 })
      (sym (phase-begun c.args.plan c.steps-steps.ensures.limits));
  marks = marks_of-begin c.none.result c.none.ensures.empty;
  taken = c.new.ensures.items;
}
