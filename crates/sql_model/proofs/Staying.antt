-- A store that stays up and sees what it saw, and the fault that a failed call is. For the functions of `sql_reads`,
-- `sql_writes` and above.
use Rattle.std.proofs.Common.{◌≡◌, ◌⊎◌, ℕ, true, IsTrue, arith, ◌↔◌, rules}
use Rattle.sqlite.specs.Store.{Ghosts}
use Rattle.sqlite.specs.State.{State as Connected, HasCleanDisk, Survives}
use Rattle.sqlite.specs.Steps.{FailsToCommit}
use Rattle.sqlite.specs.Held.{Held, state}
use Rattle.sqlite.specs.declared.error.Error.{Error}
use Rattle.sqlite.specs.declared.error.Error.TheVariants.{SqliteFailure}
use Rattle.sqlite.specs.declared.error.ErrorCode.TheVariants.{OutOfMemory as RanShort}
use Rattle.sqlite.specs.Tree.{Trees}
use Rattle.commands.specs.declared.replies.Fault.{Fault}
use Rattle.commands.specs.declared.replies.Fault.TheVariants.{Memory, Store}
use Rattle.desk_sql.specs.Calls.{LeavesNoMore}
use Rattle.desk_sql.specs.Causes.{IsUp, HasFaulted, HasReason}
use Rattle.desk_sql.specs.Writable.{HasRowids}
use Rattle.desk_sql.specs.declared.versions.Version.{Version}
pub use Rattle.desk_sql.proofs.Quieting.{faulted_later, faulted_earlier}
use Rattle.ledger.specs.Answer.{State}
use Rattle.sql_model.specs.Keeping.{KeepsIn, WasClean}
use Rattle.sql_model.specs.Staying.{SeesAsBefore, StaysUp}

-- a fault that an error of the store was turned into
pub of_error : (old new : Connected) (e : Error) (f : Fault)
    → (f ≡ Memory ↔ e ≡ SqliteFailure RanShort) → HasReason old new e → f ≡ Store → HasFaulted old new
of_error old new e f memory x store = search (rules, arith)

-- why a commit failed in an open transaction: the disk failed or refused, or it ran out of memory
pub commit_why : (late end : Connected) (e : Error) → IsTrue late.is_open → IsTrue late.in_transaction → FailsToCommit late end e
    → HasFaulted late end ⊎ (e ≡ SqliteFailure RanShort)
commit_why late end e live inside x = search (rules, arith)

module _ {S : Type 0} (g : Ghosts S) (old new : Held S) where
  -- a call counts on, and stays up, whatever it commits
  pub stays_committing : (Commits : Trees → Type 0) → Survives (state g old) (state g new) Commits → StaysUp g old new
  stays_committing x survives = search (rules, arith)

  -- the same of a call that commits nothing
  pub stays_up : LeavesNoMore g old new → StaysUp g old new
  stays_up survives = stays_committing (λ _. ⊥) survives

-- One call after another.

-- a connection is as much up once a transaction has begun
pub stays_begun : {S : Type 0} (g : Ghosts S) (old new : Held S) → StaysUp g (record old { in_transaction = true }) new → StaysUp g old new
stays_begun g old new it = search (rules, arith)

module _ {S : Type 0} (g : Ghosts S) (a b c : Held S) where
  pub stays_twice : StaysUp g a b → StaysUp g b c → WasClean g b c → StaysUp g a c
  stays_twice one two less = search (rules, arith, faulted_earlier, faulted_later)

  -- a call fails that only tells of a store which the one before shut
  pub fails_twice : StaysUp g a b → StaysUp g b c → WasClean g b c → HasCleanDisk (state g c) → IsUp (state g a)
      → (IsUp (state g b) → HasFaulted (state g b) (state g c)) → HasFaulted (state g a) (state g c)
  fails_twice one two less clean up fails = search (rules, arith, faulted_earlier, faulted_later)

module _ {S : Type 0} (g : Ghosts S) (old new : Held S) where
  -- as many rowids are left as before, on a state that is kept
  pub rowids_stay : {v : Version} → SeesAsBefore g old new → WasClean g old new → (s : State) → KeepsIn v (state g old) s
      → HasCleanDisk (state g new) → IsTrue (state g new).is_open
      → (n : ℕ) → HasRowids n (state g old).now.trees → HasRowids n (state g new).now.trees
  rowids_stay again less s keeps clean live n has = search (rules, arith)
