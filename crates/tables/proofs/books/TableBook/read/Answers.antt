-- A read leaves a book as a look does, which may then act as before, or has failed for a reason.
use Rattle.std.proofs.Common.{◌≡◌, refl, rules, Err}
use Rattle.commands.specs.declared.replies.Fault.TheVariants.{Memory, Store}
use Rattle.tables.proofs.SinceLemmas.{not_read, read_failed, read_on}
use Rattle.tables.proofs.books.TableBook.read.Goals as goal

pub returns-then-self : goal.returns-then-self
returns-then-self g c = not_read g.S.Store c.args.self.now c.if-self.true

pub returns-in-Ok : goal.returns-in-Ok
returns-in-Ok g c = read_on g.S.Store c.args.self.now c.look.new.book c.in-Ok.ensures c.if-self.false tt

pub returns-in-Err-Memory : goal.returns-in-Err-Memory
returns-in-Err-Memory g c =
    let ran_out : c.look.result ≡ Err Memory = search rules in
    read_on g.S.Store c.args.self.now c.look.new.book (rw ran_out at c.look.ensures) c.if-self.false refl

pub returns-in-Err-Store : goal.returns-in-Err-Store
returns-in-Err-Store g c =
    let failed : c.look.result ≡ Err Store = search rules in
    read_failed g.S.Store c.args.self.now c.look.new.book c.look.ensures failed
