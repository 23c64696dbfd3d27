use Rattle.std.proofs.Common.{rules}
use Rattle.memory_book.proofs.mem_book.MemBookBook.act.Goals as goal

-- the outcome has come
pub returns-in-Ok : goal.returns-in-Ok
returns-in-Ok c = record {
  reply = λ _ s here. (c.in-Ok.ensures s here).replied;
  after = λ _ s here. (c.in-Ok.ensures s here).stands;
  memory = search rules;
  store = search rules;
  fails = search rules;
  stays_failed = search rules;
  stays_left = search rules;
  may_act = search rules;
  sound = search rules;
}
