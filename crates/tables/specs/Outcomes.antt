-- What a migration, and each part of it, comes to.
use Rattle.std.specs.Prelude.{◌≡◌, ◌≢◌, ℕ, Result, Ok, Err}
use Rattle.sqlite.specs.Store.{Ghosts}
use Rattle.sqlite.specs.Held.{Held}
use Rattle.desk_sql.specs.Calls.{Idle}
use Rattle.desk_sql.specs.Schema.{no_schema}
use Rattle.desk_sql.specs.Versions.{SawVersion}
use Rattle.desk_sql.specs.declared.meta.Meta.{Meta}
use Rattle.sql_model.specs.Keeping.{WasClean}
use Rattle.sql_model.specs.Staying.{StaysUp}
use Rattle.tables.specs.Migrating.{BringsAll, BringsOver, CountsEvents, HasFew, IsAsBefore, IsFault, IsRefusal, LeavesEither, LeavesNew, LeavesNewOf, LeavesOneOf, NumbersOld, ShowsAsBefore, ShowsOld, Tells, WasNotNew, WasNotOld}
use Rattle.tables.specs.MigrateReasons.{FailsForReason, FailsToBringOver, FailsToRead}
use Rattle.tables.specs.declared.migrate_faults.MigrateFault.{MigrateFault}
use Rattle.tables.specs.declared.migrate_faults.MigrateFault.TheVariants.{Memory, UnknownSchema}

module _ {S : Type 0} (g : Ghosts S) (old new : Held S) where
  -- The tables of version 1, with so many events, are tables of version 2.
  pub record Migrates (n : ℕ) : Type 0 where
    -- they have the same state, which is all that a crash leaves
    pub same_state : BringsOver g old new
    pub left : LeavesNew g old new
    pub only_old : WasNotNew g old new
    pub events : CountsEvents g old new n
    pub version : SawVersion g old new 1

  -- The tables were not migrated, or that is not known.
  pub record FailsToMigrate (why : MigrateFault) : Type 0 where
    -- a refusal says which version was seen, and never comes of a state in tables of version 1; neither it nor a fault of memory
    -- changes anything
    pub told : Tells g old new why
    pub only_old : IsRefusal why → WasNotOld g old new
    -- a failed store has a reason
    pub reason : FailsForReason g old new why
    -- the connection shows the old tables; a crash leaves what it could leave before, or the new ones
    pub shows : ShowsAsBefore g old new
    pub stop : LeavesEither g old new

  -- the connection is idle, and its disk is clean only if it was clean before
  pub record StaysIdle : Type 0 where
    pub idle : Idle new
    pub sound : WasClean g old new

  -- The numbers of tables of version 1 were read.
  pub record ReadsOld (m : Meta) : Type 0 where
    pub filled : old.schema ≢ no_schema
    pub numbers : NumbersOld g old new m
    pub version : SawVersion g old new 1
    pub few : HasFew m

  -- They were not, and a store without tables is refused as of version 0.
  pub record RefusesOld (why : MigrateFault) : Type 0 where
    pub told : Tells g old new why
    pub bare : old.schema ≡ no_schema → why ≡ UnknownSchema 0
    pub store : FailsToRead g old new why

  -- one or the other
  abbrev pub TriesOld : Result Meta MigrateFault → Type 0
  TriesOld (Ok m) = ReadsOld m
  TriesOld (Err why) = RefusesOld why

  -- From tables of version 1 with these numbers: a commit made tables of version 2.
  pub record Brings (m : Meta) : Type 0 where
    pub done : BringsAll g old new m
    pub left : LeavesNewOf g old new m

  -- or none was made, or that is not known
  pub record FailsToBring (m : Meta) (why : MigrateFault) : Type 0 where
    pub fault : IsFault why
    pub memory : why ≡ Memory → IsAsBefore g old new
    pub store : FailsToBringOver g old new m why
    pub up : StaysUp g old new
    pub stop : LeavesOneOf g old new m
    pub shows : ShowsOld g old new

  -- one or the other
  abbrev pub EndsBringing : Meta → {V : Type 0} → Result V MigrateFault → Type 0
  EndsBringing m (Ok v) = Brings m
  EndsBringing m (Err why) = FailsToBring m why
