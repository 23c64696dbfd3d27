-- Each law is used as it stands.
use Rattle.std.proofs.Common.{refl}
use Rattle.ledger.specs.JourneyExamples.{one_aborted, stopped_twice}
use Rattle.ledger.specs.LawExamples.{aborted, aborted_is_there, aborted_has_no_save_point, one_aborted_is_legal, seat, stopped, stopped_is_there, stopped_twice_is_legal}
use Rattle.ledger.proofs.laws.words_of_journeys_that_turn_back.Goals as goal

pub returns : goal.returns
returns c =
    let law = c.words.ensures in
    let up_and_down = law.words stopped_twice.ledger stopped_twice_is_legal 1 stopped stopped_is_there in
    record {
      places = law.places one_aborted.ledger one_aborted_is_legal seat;
      words = up_and_down.ended refl;
      holds = up_and_down.holds_all refl;
      plain = (law.plain one_aborted.ledger one_aborted_is_legal 1 aborted aborted_is_there aborted_has_no_save_point).undone refl;
    }
