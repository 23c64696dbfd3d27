-- The running journeys up to the last one that was treated have turned.
use Rattle.std.proofs.Common.{◌≤◌}
use Rattle.ledger.specs.Answer.{State}
use Rattle.saga_core.specs.Calls.{Stays}
use Rattle.recovery.specs.Following.{MayGoOn}
use Rattle.recovery.proofs.TurnedLemmas.{TurnedSoFar}
use Rattle.recovery.proofs.passes.turn_back.Given as goal

abbrev pub invariant-loop-round : goal.invariant-loop-round
invariant-loop-round g l =
    let book = g.B.Book in
    record {
      each_once : l.made ≤ l._round;
      stays : Stays book.is_sound book.leaves book.has_failed l.fn.book l.book;
      turned : book.is_sound l.book → (following : _) (s : State) → MayGoOn book.stands book.may_act following l.fn.book s
          → TurnedSoFar (MayGoOn book.stands book.may_act following l.book) s l.after l.made l._round;
    }
