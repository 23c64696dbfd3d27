-- Why an event is not committed with its reply, and what it leaves of the rowids that the store may choose.
use Rattle.std.specs.Prelude.{◌≡◌, ◌⊎◌, ◌+◌, ℕ, true, false, List, Option, Result, Err, IsErrOf, IsTrue, OnOk}
use Rattle.sqlite.specs.Store.{Ghosts}
use Rattle.sqlite.specs.Held.{Held, state}
use Rattle.sqlite.specs.State.{HasCleanDisk}
use Rattle.sqlite.specs.Steps.{FailsToCommit}
use Rattle.sqlite.specs.declared.error.Error.TheVariants.{SqliteFailure}
use Rattle.sqlite.specs.declared.error.ErrorCode.TheVariants.{OutOfMemory}
use Rattle.commands.specs.Asks.{Asked}
use Rattle.commands.specs.declared.replies.Fault.{Fault}
use Rattle.commands.specs.declared.replies.Fault.TheVariants.{Memory, Store}
use Rattle.desk_sql.specs.Calls.{Makes}
use Rattle.desk_sql.specs.Causes.{IsUp, HasFaulted}
use Rattle.desk_sql.specs.Rows.{Tables}
use Rattle.desk_sql.specs.Writable.{HasRowids}
use Rattle.ledger.specs.Answer.{State}
use Rattle.sql_model.specs.Keeping.{Keeps, MayLeave, WasClean}
use Rattle.sql_model.specs.Standing.{StandsFor}
use Rattle.sql_model.specs.Staying.{StaysUp}
use Rattle.sql_writes.specs.declared.events.Numbers.{Numbers}
use Rattle.sql_writes.specs.declared.events.Event.{Event}
use Rattle.sql_writes.specs.Kinds.{Fits, LeadsTo, event_rows}
use Rattle.sql_writes.specs.Permits.{PermitsEvent, event_rowids}

module _ {S : Type 0} (g : Ghosts S) (old new : Held S) where
  -- a transaction that began here wrote these rows, and its commit ran out of memory
  pub record RanOut (s : State) (after : Tables → Tables) : Type 0 where
    pub tables : Tables
    pub stands : StandsFor tables s
    pub late : Held S
    pub wrote : Makes (state g (record old { in_transaction = true })) (state g late) (after tables)
    pub failed : FailsToCommit (state g late) (state g new) (SqliteFailure OutOfMemory)

  -- On a state that is kept, in a store that is up: where the rows permit the event and its reply, and enough rowids are left,
  -- the fault `Store` says that the disk failed or refused meanwhile, or that the commit ran out of memory.
  abbrev pub FailsToCommitFor : Numbers → Event → Option Asked → List ℕ → {V : Type 0} → Result V Fault → Type 0
  FailsToCommitFor n e ask line result =
      HasCleanDisk (state g new) → (s : State) → Keeps (state g old) s
      → ((t : Tables) → StandsFor t s → PermitsEvent n e ask line t)
      → HasRowids (event_rowids n e ask) (state g old).now.trees → IsUp (state g old)
      → IsErrOf result Store → HasFaulted (state g old) (state g new) ⊎ RanOut s (event_rows n e ask line)

  -- they take at most their rowids, whether they are committed or not
  abbrev pub LeavesRowids : Numbers → Event → Option Asked → Type 0
  LeavesRowids n e ask =
      HasCleanDisk (state g new) → (s : State) → Keeps (state g old) s
      → ((t : Tables) → StandsFor t s → Fits n e t)
      → (m : ℕ) → HasRowids (event_rowids n e ask + m) (state g old).now.trees
      → IsTrue (state g new).is_open → HasRowids m (state g new).now.trees

  -- out of memory, the connection keeps what it kept
  abbrev pub KeepsAtMemory : {V : Type 0} → Result V Fault → Type 0
  KeepsAtMemory result =
      (s : State) → Keeps (state g old) s → result ≡ Err Memory → Keeps (state g new) s

  -- What is left after an event with its reply, whether it is committed or not: no transaction is begun, a crash leaves the old
  -- state or the next one, the rowids are enough, and the store stays up.
  pub record LeavesEvent (n : Numbers) (e : Event) (ask : Option Asked) (line : List ℕ) : Type 0 where
    pub outside : new.in_transaction ≡ false
    pub either : (s next : State) → LeadsTo n e ask line s next → Keeps (state g old) s → MayLeave (state g new) s next
    pub rowids : LeavesRowids n e ask
    pub up : StaysUp g old new
    pub less : WasClean g old new

  -- an event with its reply is committed, or not: a success leads to the next state
  pub record CommitsEvent (n : Numbers) (e : Event) (ask : Option Asked) (line : List ℕ) {V : Type 0} (result : Result V Fault)
      : Type 0 where
    pub done : (s next : State) → LeadsTo n e ask line s next → Keeps (state g old) s → OnOk result (Keeps (state g new) next)
    pub memory : KeepsAtMemory result
    pub store : FailsToCommitFor n e ask line result
    pub leaves : LeavesEvent n e ask line
