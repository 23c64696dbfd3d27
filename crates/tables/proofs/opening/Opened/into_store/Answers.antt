-- The connection of what was opened is let go without its limit of steps.
use Rattle.std.proofs.Common.{sym, subst}
use Rattle.tables.specs.Making.{GivesBack}
use Rattle.tables.proofs.ClosingLemmas.{gives_back}
use Rattle.tables.proofs.opening.Opened.into_store.Goals as goal

pub returns : goal.returns
returns g c = subst (GivesBack g.S.Store c.args.self) (sym c.without_limit.ensures.same) (gives_back g.S.Store c.args.self)
