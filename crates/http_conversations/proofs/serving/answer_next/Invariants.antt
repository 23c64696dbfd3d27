use Rattle.std.proofs.Common.{◌≡◌, List, ℕ, Some, false}
use Rattle.ledger.specs.Answer.{State}
use Rattle.saga_core.specs.Calls.{Stays}
use Rattle.http_conversations.specs.Conversations.{history}
use Rattle.http_conversations.specs.ServeReasons.{ServesOn}
use Rattle.http_conversations.specs.Serving.{AwaitsNext, to_come}
use Rattle.http_conversations.proofs.serving.answer_next.Given as goal

-- nothing was answered, and what is to come is what was to come
abbrev pub invariant-loop : goal.invariant-loop
invariant-loop g l =
    let book = g.B.Book in
    let left = g.R.Read.remaining in
    let h = history l.conversation in
    record {
      awaits : AwaitsNext h;
      stream : (stream : List ℕ) → to_come (history l.fn.conversation) (left l.fn.reader) ≡ Some stream
          → to_come h (left l.reader) ≡ Some stream;
      stands : book.is_sound l.book → (s : State) → book.stands l.fn.book s → book.stands l.book s;
      stays : Stays book.is_sound book.leaves book.has_failed l.fn.book l.book;
      reason : ServesOn book.is_sound book.may_act book.has_reason (left l.fn.reader) (left l.reader) l.fn.book l.book false
          (history l.fn.conversation) h;
    }
