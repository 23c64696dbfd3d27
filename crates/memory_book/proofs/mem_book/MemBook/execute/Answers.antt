use Rattle.std.proofs.Common.{sym, subst}
use Rattle.std.specs.Option.{option_copied}
use Rattle.commands.specs.Orders.{request_of}
use Rattle.memory_book.specs.Memory.{Comes}
use Rattle.memory_book.proofs.ActLemmas.{again-known, outcome-new}
use Rattle.memory_book.proofs.mem_book.MemBook.execute.Goals as goal

-- the key is known, and nothing changes
pub returns-in-Some : goal.returns-in-Some
returns-in-Some c s here =
    again-known c.args.self.now s (option_copied c.args.ask) (request_of c.args.command.now) c.in-Some.reply here (c.in-Some.ensures s)

-- the key is new, and the request is answered
pub returns-in-None : goal.returns-in-None
returns-in-None c s here =
    subst (λ o. Comes c.answer.new.self s o c.answer.result)
    (sym (outcome-new c.args.self.now s (option_copied c.args.ask) (request_of c.args.command.now) here (c.in-None.ensures s)))
    (c.answer.ensures s here)
