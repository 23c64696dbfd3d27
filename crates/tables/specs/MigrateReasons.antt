-- Why a migration of tables of version 1 failed.
use Rattle.std.specs.Prelude.{◌≡◌, ◌≢◌, ◌↔◌, ◌⊎◌, ◌≤◌, ℕ, length, Result, IfErr}
use Rattle.sqlite.specs.Store.{Ghosts}
use Rattle.sqlite.specs.Held.{Held, state}
use Rattle.sqlite.specs.State.{HasCleanDisk}
use Rattle.sqlite.specs.Steps.{FailsToCommit}
use Rattle.sqlite.specs.declared.error.Error.{Error}
use Rattle.sqlite.specs.declared.error.Error.TheVariants.{SqliteFailure}
use Rattle.sqlite.specs.declared.error.ErrorCode.TheVariants.{OutOfMemory}
use Rattle.desk_sql.specs.declared.versions.Version.TheVariants.{One}
use Rattle.desk_sql.specs.declared.meta.Meta.{Meta}
use Rattle.desk_sql.specs.Calls.{Sees}
use Rattle.desk_sql.specs.Causes.{IsUp, HasFaulted, HasReason}
use Rattle.desk_sql.specs.Rows.{Tables}
use Rattle.ledger.specs.Answer.{State}
use Rattle.sql_model.specs.Keeping.{KeepsIn, StoodFor}
use Rattle.sql_model.specs.Standing.{StandsIn}
use Rattle.tables.specs.Copying.{MayAdd, HasCopied}
use Rattle.tables.specs.Migrating.{AreNumbersOf, migrated, too_many}
use Rattle.tables.specs.declared.migrate_faults.MigrateFault.{MigrateFault}
use Rattle.tables.specs.declared.migrate_faults.MigrateFault.TheVariants.{Memory, Store}

-- the fault of an error before the commit: out of memory is told as such, and any other error as the store's
pub record IsFaultOf (e : Error) (why : MigrateFault) : Type 0 where
  pub memory : why ≡ Memory ↔ e ≡ SqliteFailure OutOfMemory
  pub store : why ≡ Store ↔ (e ≢ SqliteFailure OutOfMemory)

-- the ledger has more events than a file may have
abbrev pub HasTooMany : State → Type 0
HasTooMany s = too_many ≤ length s.ledger

module _ {S : Type 0} (g : Ghosts S) (new : Held S) where
  -- a transaction made the new tables of rows that represent the state, and its commit ran out of memory
  pub record MigrationRanOut (s : State) : Type 0 where
    pub numbers : Meta
    pub are : AreNumbersOf numbers s
    pub tables : Tables
    pub stands : StandsIn One tables s
    pub late : Held S
    pub wrote : Sees (state g late) (migrated numbers tables)
    pub failed : FailsToCommit (state g late) (state g new) (SqliteFailure OutOfMemory)

module _ {S : Type 0} (g : Ghosts S) (old new : Held S) where
  -- On tables of version 1, in a transaction of a store that is up, a write fails only out of memory, or where the disk failed
  -- or refused.
  abbrev pub FailsOnOld : {V : Type 0} → Result V Error → Type 0
  FailsOnOld result =
      HasCleanDisk (state g new) → (t : Tables) → MayAdd (state g old) t → IsUp (state g old)
      → IfErr result (HasReason (state g old) (state g new))

  -- the same, where the items below this number were copied
  abbrev pub FailsToCopy : {V : Type 0} → Result V Error → ℕ → Type 0
  FailsToCopy result first =
      HasCleanDisk (state g new) → (t : Tables) → HasCopied first (state g old) t → IsUp (state g old)
      → IfErr result (HasReason (state g old) (state g new))

  -- Numbers of tables of version 1 are not read from a store that was up: Store says that its disk failed or refused, or that
  -- they are numbers which no file has.
  abbrev pub FailsToRead : MigrateFault → Type 0
  FailsToRead why =
      HasCleanDisk (state g new) → (s : State) → StoodFor One (state g old) s → IsUp (state g old) → why ≡ Store
      → HasFaulted (state g old) (state g new) ⊎ HasTooMany s

  -- From tables of version 1 with these numbers, in a store that was up: Store says that its disk failed or refused, or that
  -- the commit ran out of memory.
  abbrev pub FailsToBringOver : Meta → MigrateFault → Type 0
  FailsToBringOver m why =
      HasCleanDisk (state g new) → (s : State) → AreNumbersOf m s → KeepsIn One (state g old) s → IsUp (state g old)
      → why ≡ Store → HasFaulted (state g old) (state g new) ⊎ MigrationRanOut g new s

  -- While the store returns what was written, and the connection represented a state in tables of version 1: Store from a
  -- store that was up says that its disk failed or refused meanwhile, that the commit of the new tables ran out of memory, or
  -- that the ledger has more events than a file may have.
  abbrev pub FailsForReason : MigrateFault → Type 0
  FailsForReason why =
      HasCleanDisk (state g new) → (s : State) → StoodFor One (state g old) s → IsUp (state g old) → why ≡ Store
      → HasFaulted (state g old) (state g new) ⊎ (MigrationRanOut g new s ⊎ HasTooMany s)
