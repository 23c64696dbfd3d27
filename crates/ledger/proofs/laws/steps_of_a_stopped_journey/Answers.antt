-- Each law is used as it stands.
use Rattle.std.proofs.Common.{refl}
use Rattle.ledger.specs.Examples.{done}
use Rattle.ledger.specs.JourneyExamples.{begun_unmarked, saved_and_stopped}
use Rattle.ledger.specs.LawExamples.{begun_unmarked_is_legal}
use Rattle.ledger.proofs.laws.steps_of_a_stopped_journey.Goals as goal

pub returns : goal.returns
returns c = record {
  one = c.steps.ensures.one begun_unmarked.ledger begun_unmarked_is_legal 1 refl;
  finished = c.steps.ensures.finished saved_and_stopped.ledger 1 (done 3) refl;
}
