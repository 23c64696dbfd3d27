use Rattle.std.proofs.Common.{◌∙◌}
use Rattle.tables.proofs.ListedLemmas.{first-from}
use Rattle.tables.proofs.ReadingLemmas.{looks_at, looks_less}
use Rattle.tables.proofs.books.TableBook.look.Goals as goal

-- if all journeys up to a number have finished, a search above it finds the same
pub returns-then-after-self : goal.returns-then-after-self
returns-then-after-self g c =
    looks_less c.look_on.ensures (λ s here found is. is ∙ first-from s.ledger c.args.self.now.finished c.args.after here.known c.if-after-self.true)

pub returns-else-after-self : goal.returns-else-after-self
returns-else-after-self g c = looks_at c.read_first_unfinished.ensures
