-- What a look at the tables leaves of a book that has not failed, and what a read and a command leave of any book.
use Rattle.std.specs.Prelude.{◌≡◌, Option, Result}
use Rattle.std.specs.Borrow.{Bor}
use Rattle.std.specs.Option.{option_copied}
use Rattle.sqlite.specs.Store.{Ghosts}
use Rattle.sqlite.specs.Held.{state}
use Rattle.sqlite.specs.State.{HasCleanDisk}
use Rattle.commands.specs.Asks.{Asked}
use Rattle.commands.specs.Request.{Request}
use Rattle.commands.specs.declared.replies.Fault.{Fault}
use Rattle.commands.specs.declared.replies.Reply.{Reply}
use Rattle.desk_sql.specs.Calls.{Quiet}
use Rattle.ledger.specs.Answer.{State}
use Rattle.sql_model.specs.Staying.{SeesAsBefore, StaysUp}
use Rattle.sql_model.specs.Keeping.{WasClean}
use Rattle.tables.specs.Acting.{ActsOn, HasReasonSince, MayActSince}
use Rattle.tables.specs.BookTerms.{FailsForReason, FailsToAct, KeepsKnowing, LeavesBook, LeavesRowids, ShowsKept, StandsBook}
use Rattle.saga_core.specs.Calls as calls
use Rattle.tables.specs.declared.books.TableBook.{TableBook}

module _ {S : Type 0} (g : Ghosts S) (old new : TableBook S g) {V : Type 0} (result : Result V Fault)
    (IsShown : State → V → Type 0) where
  -- a look at the tables of a book shows this of each state that the book represents, and does not tell whether the book has failed
  pub record Looks : Type 0 where
    pub shown : ShowsKept g old new IsShown result
    pub same : KeepsKnowing g old new result
    pub failed : new.failed ≡ old.failed
    pub store : FailsForReason g old new result
    pub quiet : Quiet g old.conn new.conn

  -- a read of a book shows the same, and the book has failed if the store has
  pub record Reads : Type 0 where
    pub shown : ShowsKept g old new IsShown result
    pub book : calls.Reads (λ b. HasCleanDisk (state g b.conn)) (StandsBook g) (LeavesBook g) (λ b. b.failed) (MayActSince g)
        (HasReasonSince g) old new result
    pub sound : WasClean g old.conn new.conn
    pub store : FailsForReason g old new result
    pub sees : SeesAsBefore g old.conn new.conn

module _ {S : Type 0} (g : Ghosts S) (old new : TableBook S g) (ask : Option (Bor Asked)) (asked : Request) (result : Result Reply Fault) where
  -- a command, which fails with Store only for a reason, and takes at most the rowids of its rows
  pub record Executes : Type 0 where
    pub book : calls.Acts (λ b. HasCleanDisk (state g b.conn)) (StandsBook g) (LeavesBook g) (λ b. b.failed) (MayActSince g)
        (HasReasonSince g) old new (option_copied ask) asked result
    pub sound : WasClean g old.conn new.conn
    pub reason : FailsToAct g old new ask asked result
    pub rowids : LeavesRowids g old new ask asked
    pub up : StaysUp g old.conn new.conn
    pub acts : ActsOn g old new ask asked result
