-- The replies so far, and the state of the book, are those of the commands so far.
use Rattle.std.proofs.Common.{◌≡◌, ◌++◌, length, take, drop, vec_len, vec_capacity}
use Rattle.ledger.specs.Answer.{State}
use Rattle.saga_core.specs.Calls.{Stays}
use Rattle.saga_core.specs.Runs.{Asks, asks_of, replies_to, state_after}
use Rattle.saga_core.specs.Worlds.{KeepLimits}
use Rattle.saga_core.proofs.runs.run.Given as goal

abbrev pub invariant-loop-command : goal.invariant-loop-command
invariant-loop-command g l =
    let book = g.B.Book in
    record {
      room : vec_capacity l.replies ≡ length l.commands;
      count : vec_len l.replies ≡ l.command-index;
      limits : KeepLimits (take l.command-index (asks_of l.commands));
      stays : Stays book.is_sound book.leaves book.has_failed l.fn.book l.book;
      replied : book.is_sound l.book → (s : State) → book.stands l.fn.book s
          → l.replies.items ≡ replies_to s (take l.command-index (asks_of l.commands));
      stands : book.is_sound l.book → (s : State) → book.stands l.fn.book s
          → book.stands l.book (state_after s (take l.command-index (asks_of l.commands)));
      may_act : book.is_sound l.book → (first : _) (s : State) (later : Asks) → book.may_act first l.fn.book s (asks_of l.commands ++ later)
          → book.may_act first l.book (state_after s (take l.command-index (asks_of l.commands))) (drop l.command-index (asks_of l.commands) ++ later);
    }
