-- What the contract of a statement may say of the connection that it ran on.
use Rattle.std.specs.Prelude.{◌≡◌, ◌⊎◌, ℕ, false, [], None, Result, OnOk, IfOk, IsTrue}
use Rattle.std.specs.Borrow.{MutBor}
use Rattle.std.specs.List.{AllByRecursion}
use Rattle.sqlite_schema.specs.declared.schema.Schema.{Schema}
use Rattle.sqlite.specs.Effect.{IsDatabase}
use Rattle.sqlite.specs.Store.{Ghosts}
use Rattle.sqlite.specs.Held.{Held, state}
use Rattle.sqlite.specs.State.{State, HasCleanDisk, IsUnchanged, IsRolledBack, KeepsCounts, Survives, KeepsCommit}
use Rattle.sqlite.specs.declared.error.Error.{Error}
use Rattle.desk_sql.specs.declared.versions.Version.{Version}
use Rattle.desk_sql.specs.declared.versions.Version.TheVariants.{Two}
use Rattle.desk_sql.specs.Schema.{no_schema, IsSchemaOf}
use Rattle.desk_sql.specs.Rows.{Tables, ShowsIn}

-- the connection sees these rows, in tables of this version, whatever indexes they have beside those of their keys; the trees list
-- the schema, and obey it
pub record SeesIn (v : Version) (s : State) (t : Tables) : Type 0 where
  pub schema : IsSchemaOf v s.now.schema
  pub rows : ShowsIn v s.now.trees t
  pub sound : IsDatabase s.now

-- the connection sees these rows, in tables of the newest version
abbrev pub Sees : State → Tables → Type 0
Sees s t = SeesIn Two s t

-- the same, if the connection is open: a closed one shows nothing, and each call on it fails
abbrev pub MaySeeIn : Version → State → Tables → Type 0
MaySeeIn v s t = IsTrue s.is_open → SeesIn v s t

abbrev pub MaySee : State → Tables → Type 0
MaySee s t = MaySeeIn Two s t

-- the connection is in a transaction over the desk's tables
pub record IsReady (s : State) : Type 0 where
  pub inside : IsTrue s.in_transaction
  pub schema : IsSchemaOf Two s.now.schema

-- the connection is in a transaction, and sees these rows if it is open
pub record MayRun (s : State) (t : Tables) : Type 0 where
  pub inside : IsTrue s.in_transaction
  pub sees : MaySee s t

-- the transaction was open, goes on, and sees these rows now; nothing was committed
pub record Makes (old new : State) (after : Tables) : Type 0 where
  pub was_open : IsTrue old.is_open
  pub is_open : IsTrue new.is_open
  pub inside : IsTrue new.in_transaction
  pub sees : Sees new after
  pub committed : new.committed ≡ old.committed

-- the connection is in no transaction, and has no limit of steps
pub record Idle {S : Type 0} (h : Held S) : Type 0 where
  pub outside : h.in_transaction ≡ false
  pub unlimited : h.step_limit ≡ None

-- the database has these tables, and none of them has a row
pub record IsEmptyWith (schema : Schema) (s : State) : Type 0 where
  pub is : s.now.schema ≡ schema
  pub empty : AllByRecursion (λ t. s.now.trees t.tree ≡ []) schema.tables

-- the connection is in a transaction, and has these tables, without rows, if it is open
pub record MayBuild (schema : Schema) (s : State) : Type 0 where
  pub inside : IsTrue s.in_transaction
  pub empty : IsTrue s.is_open → IsEmptyWith schema s

-- the transaction was open, goes on, and has these tables, without rows; nothing was committed
pub record Builds (old new : State) (after : Schema) : Type 0 where
  pub was_open : IsTrue old.is_open
  pub is_open : IsTrue new.is_open
  pub inside : IsTrue new.in_transaction
  pub made : IsEmptyWith after new
  pub sound : IsDatabase new.now
  pub committed : new.committed ≡ old.committed

-- a shut connection stays as it was
pub record StaysShut (old new : State) : Type 0 where
  pub was_shut : old.is_open ≡ false
  pub is_shut : new.is_open ≡ false
  pub mode : new.in_transaction ≡ old.in_transaction
  pub marks : new.marks ≡ old.marks
  pub counts : KeepsCounts old new

-- nothing has changed, or the transaction was rolled back
abbrev pub ChangesNothing : State → State → Type 0
ChangesNothing old new = IsUnchanged old new ⊎ (IsRolledBack old new ⊎ StaysShut old new)

module _ {S : Type 0} (g : Ghosts S) (old new : Held S) where
  -- A write in a transaction: if the rows fit, a success changes them by `after`.
  abbrev pub WritesWhere : (Tables → Type 0) → Result ℕ Error → (Tables → Tables) → Type 0
  WritesWhere Fits result after =
      HasCleanDisk (state g new) → (t : Tables) → MayRun (state g old) t → Fits t
      → OnOk result (Makes (state g old) (state g new) (after t))

  -- texts that create tables: from these tables, without rows, a success leads to those, without rows
  abbrev pub BuildsOn : Schema → {V : Type 0} → Result V Error → Schema → Type 0
  BuildsOn before result after =
      HasCleanDisk (state g new) → MayBuild before (state g old)
      → OnOk result (Builds (state g old) (state g new) after)

  -- on a store without tables a success leaves all tables, with these rows
  abbrev pub Founds : {V : Type 0} → Result V Error → Tables → Type 0
  Founds result rows =
      HasCleanDisk (state g new) → MayBuild no_schema (state g old)
      → OnOk result (Makes (state g old) (state g new) rows)

  -- the transaction goes on after a success
  abbrev pub StaysInside : {V : Type 0} → Result V Error → Type 0
  StaysInside result =
      HasCleanDisk (state g new) → IsTrue (state g old).in_transaction
      → OnOk result (IsTrue (state g new).in_transaction)

  -- a success implies that the connection was open
  abbrev pub WasOpen : {V : Type 0} → Result V Error → Type 0
  WasOpen result =
      HasCleanDisk (state g new) → IsTrue (state g old).in_transaction
      → OnOk result (IsTrue (state g old).is_open)

  -- a call in a transaction commits nothing
  abbrev pub CommitsNothing : Type 0
  CommitsNothing =
      HasCleanDisk (state g new) → IsTrue (state g old).in_transaction
      → KeepsCommit (state g old) (state g new)

  -- what a crash may leave does not grow
  abbrev pub LeavesNoMore : Type 0
  LeavesNoMore = Survives (state g old) (state g new) (λ _. ⊥)

  -- A read: on tables of this version a success changes nothing, and what it found matches the rows.
  abbrev pub ReadsIn : Version → {V : Type 0} → Result V Error → (Tables → V → Type 0) → Type 0
  ReadsIn v result Finds =
      HasCleanDisk (state g new) → (t : Tables) → MaySeeIn v (state g old) t
      → IfOk result (λ found. IsUnchanged (state g old) (state g new) × Finds t found)

  -- A read, whatever its answer: nothing changes, or the transaction of the call is rolled back; none is begun; and a crash leaves
  -- no more than before.
  pub record Quiet : Type 0 where
    pub same : HasCleanDisk (state g new) → ChangesNothing (state g old) (state g new)
    pub mode : old.in_transaction ≡ false → new.in_transaction ≡ false
    pub survives : LeavesNoMore

module _ {S : Type 0} (g : Ghosts S) (old new : MutBor (Held S)) {V : Type 0} (result : Result V Error) where
  -- A write, whatever its answer: the transaction is the same one, which goes on after a success; nothing is committed, and a crash
  -- leaves no more than before.
  pub record GoesOn : Type 0 where
    pub same_reference : new.ghost_name ≡ old.ghost_name
    pub inside : StaysInside g old.now new.now result
    pub live : WasOpen g old.now new.now result
    pub commit : CommitsNothing g old.now new.now
    pub survives : LeavesNoMore g old.now new.now
