-- The connection of the book is let go without its limit of steps.
use Rattle.std.proofs.Common.{sym, subst}
use Rattle.tables.specs.Making.{LetsGo}
use Rattle.tables.proofs.ClosingLemmas.{lets_go}
use Rattle.tables.proofs.books.TableBook.into_store.Goals as goal

pub returns : goal.returns
returns g c = subst (LetsGo g.S.Store c.args.self) (sym c.without_limit.ensures.same) (lets_go g.S.Store c.args.self)
