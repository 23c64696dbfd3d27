-- Why a call on a store failed. The store itself counts how often its disk failed or refused, and no other call moves that
-- count; so a body cannot make up a failure that has a cause.
use Rattle.std.specs.Prelude.{◌≡◌, ◌⊎◌, None, Result, IfErr, IsTrue}
use Rattle.sqlite.specs.Disk.{MoreFaults}
use Rattle.sqlite.specs.Store.{Ghosts}
use Rattle.sqlite.specs.Held.{Held, state}
use Rattle.sqlite.specs.State.{State, HasCleanDisk}
use Rattle.sqlite.specs.declared.error.Error.{Error}
use Rattle.sqlite.specs.declared.error.Error.TheVariants.{SqliteFailure}
use Rattle.sqlite.specs.declared.error.ErrorCode.TheVariants.{OutOfMemory}
use Rattle.desk_sql.specs.declared.versions.Version.{Version}
use Rattle.sqlite_schema.specs.declared.schema.Schema.{Schema}
use Rattle.desk_sql.specs.Calls.{MaySeeIn, MayRun, MayBuild}
use Rattle.desk_sql.specs.Rows.{Tables}

-- the connection is open, and no limit is set on the steps of a query
pub record IsUp (s : State) : Type 0 where
  pub is_open : IsTrue s.is_open
  pub unlimited : s.step_limit ≡ None

-- the disk failed or refused in between
abbrev pub HasFaulted : State → State → Type 0
HasFaulted old new = MoreFaults old.faults new.faults

-- out of memory
abbrev pub IsMemory : Error → Type 0
IsMemory e = e ≡ SqliteFailure OutOfMemory

-- out of memory, or the disk failed or refused in between
abbrev pub HasReason : State → State → Error → Type 0
HasReason old new e = IsMemory e ⊎ HasFaulted old new

module _ {S : Type 0} (g : Ghosts S) (old new : Held S) where
  -- A read of a store that is up: where the rows fit, it fails only out of memory, or where the disk failed or refused.
  abbrev pub FailsForReasonIn : Version → {V : Type 0} → Result V Error → (Tables → Type 0) → Type 0
  FailsForReasonIn v result Fits =
      HasCleanDisk (state g new) → (t : Tables) → MaySeeIn v (state g old) t → Fits t → IsUp (state g old)
      → IfErr result (HasReason (state g old) (state g new))

  -- on tables of each version
  abbrev pub FailsForReasonEach : {V : Type 0} → Result V Error → (Tables → Type 0) → Type 0
  FailsForReasonEach result Fits = (v : Version) → FailsForReasonIn v result Fits

  -- A write in a transaction of a store that is up: where the rows fit, it fails only out of memory, or where the disk failed
  -- or refused.
  abbrev pub FailsToWrite : {V : Type 0} → Result V Error → (Tables → Type 0) → Type 0
  FailsToWrite result Fits =
      HasCleanDisk (state g new) → (t : Tables) → MayRun (state g old) t → Fits t → IsUp (state g old)
      → IfErr result (HasReason (state g old) (state g new))

  -- Texts that create tables, in a transaction of a store that is up: beside these tables, without rows, they fail only out of
  -- memory, or where the disk failed or refused.
  abbrev pub FailsToBuild : Schema → {V : Type 0} → Result V Error → Type 0
  FailsToBuild before result =
      HasCleanDisk (state g new) → MayBuild before (state g old) → IsUp (state g old)
      → IfErr result (HasReason (state g old) (state g new))
