-- The outcome of a request with or without a known key. For `execute` of a book in memory.
use Rattle.std.proofs.Common.{◌≡◌, Option, Some, None, option_map, arith}
use Rattle.commands.specs.Asks.{Asked}
use Rattle.commands.specs.Request.{Request}
use Rattle.commands.specs.declared.replies.Reply.{Reply}
use Rattle.ledger.specs.Answer.{State, outcome, kept_for, answered_again, text_of, carried_out, answer, asker}
use Rattle.memory_book.specs.Memory.{Gives, StandsFor}
use Rattle.memory_book.specs.MemoryAnswers.{kept_in, found_for}
use Rattle.memory_book.specs.declared.mem_book.MemBook.{MemBook}

-- the reply that the book keeps for a request is the one that the state keeps
found_for-kept : (m : MemBook) (s : State) → StandsFor m s → (ask : Option Asked)
    → found_for (kept_in m.answers) ask ≡ kept_for s ask
found_for-kept m s here ask = grind arith

module _ (m : MemBook) (s : State) (ask : Option Asked) (asked : Request) where
  -- where a reply is kept, it is the reply, and nothing changes
  pub again-known : (r : Reply) → StandsFor m s
      → Some r ≡ option_map (λ k. (answered_again s (text_of ask) k).reply) (found_for (kept_in m.answers) ask)
      → Gives m (outcome s ask asked) r
  again-known r here is = grind (arith, found_for-kept)

  -- where none is kept, the request is answered
  pub outcome-new : StandsFor m s → None ≡ option_map (λ k. (answered_again s (text_of ask) k).reply) (found_for (kept_in m.answers) ask)
      → outcome s ask asked ≡ carried_out s ask (answer s.ledger (asker ask) asked)
  outcome-new here is = grind (arith, found_for-kept)
