-- How a load ends, from what it came to and what was written. For load_over.
use Rattle.std.proofs.Common.{ℕ, List, Option, Result, arith}
use Rattle.commands.specs.BatchData.{Batched}
use Rattle.commands.specs.declared.replies.Reply.{Reply}
use Rattle.allotment_csv.specs.declared.faults.CsvFault.{CsvFault}
use Rattle.ledger.specs.Answer.{State}
use Rattle.program_ends.specs.declared.ends.End.{End}
use Rattle.sqlite.specs.Store.{Ghosts}
use Rattle.sqlite.specs.Held.{Held}
use Rattle.tables.specs.BookTerms.{LeavesBook, StandsBook}
use Rattle.tables.specs.Making.{LetsGo}
use Rattle.tables.specs.declared.books.TableBook.{TableBook}
use Rattle.desk_jobs.specs.Connections.{MayBeLeft, Represents}
use Rattle.desk_jobs.specs.Loading.{EndsLoad, EndsWith}
use Rattle.desk_jobs.proofs.JobLemmas.{represented}

module _ (held holds : Option (List ℕ)) {stands after : State → Type 0} {leaves left : State → State → Type 0}
    (s : State) (on : (t : State) → stands t → after t)
    (further : (t u : State) → leaves t u → left t u) where
  ends_with_as : (told : Reply) (t : State) (e : End) → EndsWith held holds stands leaves s told t e
      → EndsWith held holds after left s told t e
  ends_with_as told t e ends = grind arith

  -- the same of what follows from the book's states
  pub ends_as : (read : Result Batched CsvFault) (e : End) → EndsLoad held holds stands leaves s read e
      → EndsLoad held holds after left s read e
  ends_as read e ends = grind (arith, ends_with_as)

-- the same of the connection of a book that was let go
pub loaded_over : {S : Type 0} (g : Ghosts S) (now : TableBook S g) (new : Held S) → LetsGo g now new
    → (held holds : Option (List ℕ)) (s : State) (read : Result Batched CsvFault) (e : End)
    → EndsLoad held holds (StandsBook g now) (LeavesBook g now) s read e
    → EndsLoad held holds (Represents g new) (MayBeLeft g new) s read e
loaded_over g now new gone held holds s read e ends = ends_as held holds s (represented g now new gone) gone.left read e ends
