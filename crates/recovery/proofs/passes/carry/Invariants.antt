-- The pass is done with the journeys up to the last one that was treated.
use Rattle.ledger.specs.Answer.{State}
use Rattle.saga_core.specs.Calls.{Stays}
use Rattle.recovery.specs.Following.{MayGoOn}
use Rattle.recovery.proofs.CarriedLemmas.{CarriedSoFar}
use Rattle.recovery.proofs.passes.carry.Given as goal

abbrev pub invariant-loop-round : goal.invariant-loop-round
invariant-loop-round g l =
    let book = g.B.Book in
    record {
      stays : Stays book.is_sound book.leaves book.has_failed l.fn.book l.book;
      carried : book.is_sound l.book → (following : _) (s : State) → MayGoOn book.stands book.may_act following l.fn.book s
          → CarriedSoFar l.pass (MayGoOn book.stands book.may_act following l.book) s l.after l.made l._round;
    }
