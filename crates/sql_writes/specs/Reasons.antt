-- Why the writes of an event fail, and what they leave of the rowids that the store may choose.
use Rattle.std.specs.Prelude.{ℕ, ◌+◌, Result, OnOk, IfErr, IsTrue}
use Rattle.sqlite.specs.Store.{Ghosts}
use Rattle.sqlite.specs.Held.{Held, state}
use Rattle.sqlite.specs.State.{HasCleanDisk}
use Rattle.sqlite.specs.declared.error.Error.{Error}
use Rattle.desk_sql.specs.Calls.{MayRun}
use Rattle.desk_sql.specs.Causes.{IsUp, HasReason}
use Rattle.desk_sql.specs.Rows.{Tables}
use Rattle.desk_sql.specs.Writable.{HasRowids}

module _ {S : Type 0} (g : Ghosts S) (old new : Held S) where
  -- In a transaction of a store that is up: where the rows permit it and so many rowids are left, a write fails only out of
  -- memory, or where the disk failed or refused.
  abbrev pub FailsOn : {V : Type 0} → Result V Error → ℕ → (Tables → Type 0) → Type 0
  FailsOn result needed Permits =
      HasCleanDisk (state g new) → (t : Tables) → MayRun (state g old) t → Permits t
      → HasRowids needed (state g old).now.trees → IsUp (state g old)
      → IfErr result (HasReason (state g old) (state g new))

  -- in an open transaction, if the rows fit, a success takes so many of the rowids that are left
  abbrev pub TakesRowids : {V : Type 0} → Result V Error → ℕ → (Tables → Type 0) → Type 0
  TakesRowids result taken Fits =
      HasCleanDisk (state g new) → (t : Tables) → MayRun (state g old) t → IsTrue (state g old).is_open
      → Fits t → (n : ℕ) → HasRowids (taken + n) (state g old).now.trees
      → OnOk result (HasRowids n (state g new).now.trees)
