-- How a book is made of what was opened, and what is left of either when its connection is let go.
use Rattle.std.specs.Prelude.{◌≡◌, ◌↔◌, false, None}
use Rattle.sqlite.specs.Store.{Ghosts}
use Rattle.sqlite.specs.Held.{Held, state}
use Rattle.desk_sql.specs.declared.versions.Version.TheVariants.{One, Two}
use Rattle.ledger.specs.Answer.{State}
use Rattle.sql_model.specs.Keeping.{WasClean}
use Rattle.sql_model.specs.Standing.{IsDesk}
use Rattle.tables.specs.BookTerms.{LeavesBook, StandsBook}
use Rattle.tables.specs.Keeping.{MayLeave, StoodFor}
use Rattle.tables.specs.Lending.{OpenedKeeps}
use Rattle.desk_sql.specs.Calls.{Idle}
use Rattle.tables.specs.declared.books.TableBook.{TableBook}
use Rattle.tables.specs.declared.faults.OpenFault.{OpenFault}
use Rattle.tables.specs.declared.faults.OpenFault.TheVariants.{UnknownSchema, Store}
use Rattle.tables.specs.declared.opening.Opened.{Opened}

module _ {S : Type 0} (g : Ghosts S) where
  -- A book was made of what was opened.
  pub record MakesBook (o : Opened S) (b : TableBook S g) : Type 0 where
    -- it represents each state of a desk that was kept, over the same connection
    pub stands : (s : State) → IsDesk s → OpenedKeeps g o s → StandsBook g b s
    pub book : b.conn ≡ o.conn
    pub newest : o.version ≡ Two
    -- it has not failed, and remembers nothing yet
    pub working : b.failed ≡ false
    pub unknown : b.finished ≡ 0
    pub uncounted : b.unfinished ≡ None

  -- The connection of a book, let go.
  pub record LetsGo (b : TableBook S g) (new : Held S) : Type 0 where
    -- the next opening finds the state that the book represented, and a crash leaves what it could leave of the book
    pub found : (s : State) → StandsBook g b s → StoodFor Two (state g new) s
    pub left : (s t : State) → LeavesBook g b s t → MayLeave (state g new) s t
    pub idle : Idle new
    pub sound : WasClean g b.conn new
    pub same : new ≡ record b.conn { step_limit = None }

  -- The connection of what was opened, let go.
  pub record GivesBack (o : Opened S) (new : Held S) : Type 0 where
    -- the next opening finds the state that was kept
    pub found : (s : State) → OpenedKeeps g o s → StoodFor o.version (state g new) s
    pub outside : o.conn.in_transaction ≡ false → new.in_transaction ≡ false
    pub unlimited : new.step_limit ≡ None
    pub sound : WasClean g o.conn new
    pub same : new ≡ record o.conn { step_limit = None }

-- No book was made of what was opened, for this fault, and it is as it was.
pub record MakesNoBook {S : Type 0} (o left : Opened S) (fault : OpenFault) : Type 0 where
  pub unknown_schema : fault ≡ UnknownSchema 1 ↔ o.version ≡ One
  pub told : o.version ≡ Two → fault ≡ Store
  pub refused : left ≡ o
