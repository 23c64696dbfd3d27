use Rattle.std.proofs.Common.{◌≡◌, List, ℕ, Some, false}
use Rattle.ledger.specs.Answer.{State}
use Rattle.saga_core.specs.Calls.{Stays}
use Rattle.saga_core.specs.StreamScenes.{scene}
use Rattle.http_conversations.specs.Conversations.{history}
use Rattle.http_conversations.specs.ServeReasons.{HasServed}
use Rattle.http_conversations.specs.Serving.{AwaitsNext, to_come}
use Rattle.http_conversations.proofs.ServeLemmas.{SoFar}
use Rattle.http_conversations.proofs.serving.serve_messages.Given as goal

-- the messages so far were answered, and the others are in the rest of the input
abbrev pub invariant-loop-pages : goal.invariant-loop-pages
invariant-loop-pages g l =
    let book = g.B.Book in
    let left = g.R.Read.remaining in
    let contents = g.W.Write.contents in
    let h = history l.conversation in
    record {
      awaits : AwaitsNext h;
      stays : Stays book.is_sound book.leaves book.has_failed l.fn.book l.book;
      reason : HasServed book.is_sound book.may_act book.has_reason (left l.fn.reader) (left l.reader) l.fn.book l.book false h;
      so_far : book.is_sound l.book → (s : State) → book.stands l.fn.book s → (input : List ℕ) → left l.fn.reader ≡ Some input
          → SoFar (scene (contents l.fn.writer) (contents l.writer) (book.stands l.book) (book.leaves l.book)) s input (to_come h (left l.reader)) l.pages;
    }
