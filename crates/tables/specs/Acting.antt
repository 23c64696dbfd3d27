-- When a book may act, so that its next commands fail with Store only for a reason, and what each of them leaves of that.
use Rattle.std.specs.Prelude.{◌⊎◌, ◌+◌, ◌≤◌, ◌<◌, ◌^◌, ⊤, ℕ, [], ◌∷◌, Option, Result, Ok, Err}
use Rattle.std.specs.Borrow.{Bor}
use Rattle.std.specs.Option.{option_copied}
use Rattle.sqlite.specs.Store.{Ghosts}
use Rattle.sqlite.specs.Held.{state}
use Rattle.sqlite.specs.State.{HasCleanDisk}
use Rattle.commands.specs.Asks.{Asked}
use Rattle.commands.specs.Request.{Request}
use Rattle.commands.specs.declared.replies.Fault.{Fault}
use Rattle.commands.specs.declared.replies.Fault.TheVariants.{Memory, Store}
use Rattle.commands.specs.declared.replies.Reply.{Reply}
use Rattle.desk_sql.specs.Causes.{IsUp, HasFaulted}
use Rattle.desk_sql.specs.Writable.{HasRowids}
use Rattle.ledger.specs.Answer.{State, outcome, start}
use Rattle.saga_core.specs.Reasons as reasons
use Rattle.saga_core.specs.Runs.{Asks}
use Rattle.sql_commands.specs.Failing.{HasShortText, RanOutOf, asked_rowids}
use Rattle.sql_model.specs.Spelling.{IsSpelled}
use Rattle.tables.specs.BookTerms.{StandsBook}
use Rattle.tables.specs.declared.books.TableBook.{TableBook}

module _ {S : Type 0} (g : Ghosts S) where
  -- The book represents this state, whose agents have their form; its store is up, and so many rowids are left. Then a command
  -- that takes no more of them, and has a short text, fails with Store only for a reason.
  pub record MayAct (b : TableBook S g) (s : State) (m : ℕ) : Type 0 where
    pub stands : StandsBook g b s
    pub spelled : IsSpelled s.ledger
    pub up : IsUp (state g b.conn)
    pub rowids : HasRowids m (state g b.conn).now.trees

  -- a book of a new desk may act: all rowids are left
  abbrev pub NewDeskMayAct : TableBook S g → Type 0
  NewDeskMayAct b =
      HasCleanDisk (state g b.conn) → StandsBook g b start → IsUp (state g b.conn)
      → (m : ℕ) → m < 2 ^ 63 → MayAct b start m

  module _ (old new : TableBook S g) where
    -- after a success the book may act on the next state, and out of memory on the same one; after Store it acts no more
    abbrev pub ActsAfter : {V : Type 0} → (s next : State) → ℕ → Result V Fault → Type 0
    ActsAfter s next m (Ok v) = MayAct new next m
    ActsAfter s next m (Err Memory) = MayAct new s m
    ActsAfter s next m (Err Store) = ⊤

    -- unless the disk fails or refuses, a book that may act may do so after a command, with its rowids fewer
    abbrev pub ActsOn : Option (Bor Asked) → Request → Result Reply Fault → Type 0
    ActsOn ask asked result =
        HasCleanDisk (state g new.conn) → (s : State) (m : ℕ) → MayAct old s (asked_rowids (option_copied ask) asked + m)
        → ActsAfter s (outcome s (option_copied ask) asked).state m result
        ⊎ HasFaulted (state g old.conn) (state g new.conn)

-- Commands one after another.

-- how many rowids these asks take at most
abbrev pub rowids_for : Asks → ℕ
rowids_for [] = 0
rowids_for (c ∷ later) = asked_rowids c.1 c.0 + rowids_for later

-- the text of each of these asks is short
abbrev pub AreShort : Asks → Type 0
AreShort [] = ⊤
AreShort (c ∷ later) = HasShortText c.1 × AreShort later

-- What the contract of every book says of a book over tables. `first` is the book since which a reason counts.

module _ {S : Type 0} (g : Ghosts S) (first now : TableBook S g) where
  -- no fault was forgotten since the first book; and this one may act for these asks, whose texts are short, or the disk failed
  -- or refused meanwhile
  pub record MayActSince (s : State) (asks : Asks) : Type 0 where
    pub counts : (state g first.conn).faults ≤ (state g now.conn).faults
    pub may : (MayAct g now s (rowids_for asks) × AreShort asks) ⊎ HasFaulted (state g first.conn) (state g now.conn)

  -- since the first book the disk failed or refused, or the commit that leads from one state to the next ran out of memory
  abbrev pub HasReasonSince : State → State → Type 0
  HasReasonSince s next = HasFaulted (state g first.conn) (state g now.conn) ⊎ RanOutOf g now.conn s next

module _ {S : Type 0} (g : Ghosts S) (old new : TableBook S g) where
  -- a command leaves the book so that it may act on for later asks, or fails for a reason
  abbrev pub ActsSince : Option (Bor Asked) → Request → {V : Type 0} → Result V Fault → Type 0
  ActsSince ask asked result =
      HasCleanDisk (state g new.conn) → (first : TableBook S g)
      → reasons.ActsOn (MayActSince g first old) (MayActSince g first new) (HasReasonSince g first new) (option_copied ask) asked result
