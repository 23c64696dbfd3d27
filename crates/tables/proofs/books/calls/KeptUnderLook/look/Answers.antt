use Rattle.tables.proofs.ReadingLemmas.{looks_at}
use Rattle.tables.proofs.books.calls.KeptUnderLook.look.Goals as goal

pub returns : goal.returns
returns g c = looks_at c.read_kept.ensures
