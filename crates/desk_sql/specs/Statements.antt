-- What the contract of a statement says of one run, in one record: of a query, and of a write in a transaction.
use Rattle.std.specs.Prelude.{ℕ, Result}
use Rattle.std.specs.Borrow.{MutBor}
use Rattle.sqlite.specs.Store.{Ghosts}
use Rattle.sqlite.specs.Held.{Held, state}
use Rattle.sqlite.specs.declared.error.Error.{Error}
use Rattle.desk_sql.specs.Calls.{GoesOn, Quiet, ReadsIn, WritesWhere}
use Rattle.desk_sql.specs.Causes.{FailsForReasonIn, FailsToWrite}
use Rattle.desk_sql.specs.Rows.{Tables}
use Rattle.desk_sql.specs.Writable.{HasRowids, KeepsRowids, TakesRowids}
use Rattle.desk_sql.specs.declared.versions.Version.{Version}
use Rattle.desk_sql.specs.declared.versions.Version.TheVariants.{Two}

module _ {S : Type 0} (g : Ghosts S) (old new : Held S) where
  -- A query of tables of this version. What it found matches the rows; on rows that permit it, a failure has a reason; and nothing is
  -- left of it.
  pub record QueriesIn (v : Version) {V : Type 0} (result : Result V Error) (Finds : Tables → V → Type 0) (Permits : Tables → Type 0) : Type 0 where
    pub found : ReadsIn g old new v result Finds
    pub reason : FailsForReasonIn g old new v result Permits
    pub quiet : Quiet g old new

  -- of tables of the newest version
  abbrev pub Queries : {V : Type 0} → Result V Error → (Tables → V → Type 0) → (Tables → Type 0) → Type 0
  Queries result Finds Permits = QueriesIn Two result Finds Permits

  -- of tables of each version
  abbrev pub QueriesEach : {V : Type 0} → Result V Error → (Tables → V → Type 0) → (Tables → Type 0) → Type 0
  QueriesEach result Finds Permits = (v : Version) → QueriesIn v result Finds Permits

module _ {S : Type 0} (g : Ghosts S) (old new : MutBor (Held S)) (result : Result ℕ Error) (Fits Permits : Tables → Type 0) where
  -- A write that needs no rowid of the store's choice. The transaction goes on; a success changes rows that fit by `after`, and leaves
  -- the rowids that there were; and on rows that permit it, a failure has a reason.
  pub record WritesKeyed (after : Tables → Tables) : Type 0 where
    pub goes : GoesOn g old new result
    pub made : WritesWhere g old.now new.now Fits result after
    pub reason : FailsToWrite g old.now new.now result Permits
    pub rowids : KeepsRowids g old.now new.now result

  -- A write of rows whose rowids the store chooses, of which it adds so many. The same, but that a failure has a reason where as many
  -- rowids are left; a success takes so many of them, on rows that are `Left`.
  pub record WritesNumbered (Left : Tables → Type 0) (added : ℕ) (after : Tables → Tables) : Type 0 where
    pub goes : GoesOn g old new result
    pub made : WritesWhere g old.now new.now Fits result after
    pub reason : HasRowids added (state g old.now).now.trees → FailsToWrite g old.now new.now result Permits
    pub rowids : TakesRowids g old.now new.now result added Left
