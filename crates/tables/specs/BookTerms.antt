-- What a call of a book over tables returns, keeps and leaves: the terms of every book, at the fields of this one.
use Rattle.std.specs.Prelude.{◌⊎◌, ◌+◌, ℕ, Option, Result, IsErrOf}
use Rattle.std.specs.Borrow.{Bor}
use Rattle.std.specs.Option.{option_copied}
use Rattle.sqlite.specs.Store.{Ghosts}
use Rattle.sqlite.specs.Held.{state}
use Rattle.sqlite.specs.State.{HasCleanDisk}
use Rattle.commands.specs.Asks.{Asked}
use Rattle.commands.specs.Request.{Request}
use Rattle.commands.specs.declared.replies.Fault.{Fault}
use Rattle.commands.specs.declared.replies.Fault.TheVariants.{Store}
use Rattle.commands.specs.declared.replies.Reply.{Reply}
use Rattle.desk_sql.specs.Causes.{HasFaulted, IsUp}
use Rattle.desk_sql.specs.Writable.{HasRowids}
use Rattle.ledger.specs.Answer.{State}
use Rattle.saga_core.specs.Books as books
use Rattle.sql_commands.specs.Failing.{HasReason, HasShortText, asked_rowids}
use Rattle.sql_model.specs.Spelling.{IsSpelled}
use Rattle.tables.specs.Keeping.{Stands, MayLeave}
use Rattle.tables.specs.declared.books.TableBook.{TableBook}

module _ {S : Type 0} (g : Ghosts S) where
  -- the book represents this state
  abbrev pub StandsBook : TableBook S g → State → Type 0
  StandsBook b s = Stands b.failed b.finished b.unfinished (state g b.conn) s

  -- whatever a crash leaves of the book represents one of these two states
  abbrev pub LeavesBook : TableBook S g → State → State → Type 0
  LeavesBook b s t = MayLeave (state g b.conn) s t

  module _ (old new : TableBook S g) where
    -- unless the store failed, the book represents what it represented before
    abbrev pub KeepsKnowing : {V : Type 0} → Result V Fault → Type 0
    KeepsKnowing result =
        HasCleanDisk (state g new.conn) → books.Keeps (StandsBook old) (StandsBook new) result

    -- where the book stood for a desk, and its store was up, a fault of the store says that its disk failed or refused
    abbrev pub FailsForReason : {V : Type 0} → Result V Fault → Type 0
    FailsForReason result =
        HasCleanDisk (state g new.conn) → (s : State) → StandsBook old s → IsSpelled s.ledger
        → IsUp (state g old.conn) → IsErrOf result Store
        → HasFaulted (state g old.conn) (state g new.conn)

    -- where the book stood for a desk, its store was up, the text of the ask is short and enough rowids are left: a fault of
    -- the store says that its disk failed or refused, or that the commit of the outcome's rows ran out of memory
    abbrev pub FailsToAct : Option (Bor Asked) → Request → {V : Type 0} → Result V Fault → Type 0
    FailsToAct ask asked result =
        HasCleanDisk (state g new.conn) → (s : State) → StandsBook old s → IsSpelled s.ledger
        → HasShortText (option_copied ask)
        → HasRowids (asked_rowids (option_copied ask) asked) (state g old.conn).now.trees
        → IsUp (state g old.conn) → IsErrOf result Store
        → HasReason g old.conn new.conn (option_copied ask) asked s

    -- unless the disk fails or refuses, a command takes at most the rowids of its rows
    abbrev pub LeavesRowids : Option (Bor Asked) → Request → Type 0
    LeavesRowids ask asked =
        HasCleanDisk (state g new.conn) → (s : State) → StandsBook old s → (m : ℕ)
        → HasRowids (asked_rowids (option_copied ask) asked + m) (state g old.conn).now.trees
        → IsUp (state g old.conn)
        → HasRowids m (state g new.conn).now.trees ⊎ HasFaulted (state g old.conn) (state g new.conn)

    -- what is shown is so of each state that the book stood for
    abbrev pub ShowsKept : {V : Type 0} → (State → V → Type 0) → Result V Fault → Type 0
    ShowsKept IsShown result =
        HasCleanDisk (state g new.conn) → books.Shows (StandsBook old) IsShown result

    abbrev pub Answers : Option (Bor Asked) → Request → Result Reply Fault → Type 0
    Answers ask asked result =
        HasCleanDisk (state g new.conn)
        → books.Replies (StandsBook old) (option_copied ask) asked result

    abbrev pub MovesOn : Option (Bor Asked) → Request → Result Reply Fault → Type 0
    MovesOn ask asked result =
        HasCleanDisk (state g new.conn)
        → books.MovesOn (StandsBook old) (StandsBook new) (option_copied ask) asked result

    abbrev pub KeepsAtMemory : Result Reply Fault → Type 0
    KeepsAtMemory result =
        HasCleanDisk (state g new.conn)
        → books.KeepsAtMemory (StandsBook old) (StandsBook new) result

    abbrev pub LeavesAtStore : Option (Bor Asked) → Request → Result Reply Fault → Type 0
    LeavesAtStore ask asked result =
        HasCleanDisk (state g new.conn)
        → books.LeavesAtStore (StandsBook old) (MayLeave (state g new.conn))
        (option_copied ask) asked result
