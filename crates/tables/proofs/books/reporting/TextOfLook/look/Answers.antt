use Rattle.tables.proofs.ReadingLemmas.{looks_at}
use Rattle.tables.proofs.books.reporting.TextOfLook.look.Goals as goal

pub returns : goal.returns
returns g c = looks_at c.text_of.ensures
