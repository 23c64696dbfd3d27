use Rattle.tables.proofs.ReadingLemmas.{looks_at}
use Rattle.tables.proofs.books.calls.CellsOfLook.look.Goals as goal

pub returns : goal.returns
returns g c = looks_at c.read_cells.ensures
