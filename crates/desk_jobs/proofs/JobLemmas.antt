-- What a book over tables stands for, its connection represents. For the jobs over a recovered desk.
use Rattle.std.proofs.Common.{ℕ, List}
use Rattle.sqlite.specs.Store.{Ghosts}
use Rattle.sqlite.specs.Held.{Held}
use Rattle.ledger.specs.Answer.{State}
use Rattle.ledger.specs.Ledger.{Event}
use Rattle.recovery.specs.Growing.{Grew}
use Rattle.tables.specs.BookTerms.{StandsBook}
use Rattle.tables.specs.Making.{LetsGo}
use Rattle.tables.specs.declared.books.TableBook.{TableBook}
use Rattle.desk_jobs.specs.Connections.{Represents}

-- a book that stands for more stands for it after what it grew by
pub grew_as : {Are : List Event → Type 0} {stands also : State → Type 0} {s : State} {made : ℕ} → ((t : State) → stands t → also t)
    → Grew stands Are s made → Grew also Are s made
grew_as on grew =
    record { events = grew.events; are = grew.are; counted = grew.counted; within = grew.within; stands_there = on _ grew.stands_there }

-- the connection of a book that was let go represents what the book stood for
pub represented : {S : Type 0} (g : Ghosts S) (b : TableBook S g) (h : Held S) → LetsGo g b h
    → (s : State) → StandsBook g b s → Represents g h s
represented g b h gone s stands = record { desk = stands.desk; stood = gone.found s stands }
