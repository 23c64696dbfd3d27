-- The state of a connection after a migration, and what a crash may leave of it.
use Rattle.std.specs.Prelude.{◌≡◌, ◌≢◌, ◌⊎◌, ◌+◌, ◌≤◌, ◌<◌, ◌^◌, ℕ, ⊤, length, Result, Ok, Err, OnOk, IsTrue}
use Rattle.sqlite.specs.Store.{Ghosts}
use Rattle.sqlite.specs.Tree.{Trees}
use Rattle.sqlite.specs.Held.{Held, state}
use Rattle.sqlite.specs.State.{HasCleanDisk}
use Rattle.sqlite.specs.declared.error.Error.{Error}
use Rattle.desk_sql.specs.declared.versions.Version.{Version}
use Rattle.desk_sql.specs.declared.versions.Version.TheVariants.{One, Two}
use Rattle.desk_sql.specs.declared.meta.Meta.{Meta}
use Rattle.desk_sql.specs.Schema.{no_schema}
use Rattle.desk_sql.specs.Calls.{Sees, LeavesNoMore}
use Rattle.desk_sql.specs.Versions.{SawVersion}
use Rattle.desk_sql.specs.Changes.{counts}
use Rattle.desk_sql.specs.FoundRows.{meta_of}
use Rattle.desk_sql.specs.Rows.{Tables}
use Rattle.ledger.specs.Answer.{State}
use Rattle.sql_model.specs.ExpectedRows.{meta_in}
use Rattle.sql_model.specs.Keeping.{MeansIn, MeansOf, SeesOf, Sees as Shows, IsKeptIn, KeepsIn, StoodFor}
use Rattle.tables.specs.Copying.{MayAdd, with_items_below}
use Rattle.tables.specs.declared.migrate_faults.MigrateFault.{MigrateFault}
use Rattle.tables.specs.declared.migrate_faults.MigrateFault.TheVariants.{AlreadyNew, UnknownSchema, Store, Memory}

-- the numbers are those of the state's tables of version 1
abbrev pub AreNumbersOf : Meta → State → Type 0
AreNumbersOf m s = meta_of m ≡ meta_in One s.ledger

-- the rows, with the newest version, and with the items up to the last event
abbrev pub migrated : Meta → Tables → Tables
migrated m t =
    counts (record { version = 2; events = m.events; journeys = m.journeys })
    (with_items_below (m.events + 1) t)

-- the fault is a refusal, which changes nothing; the other faults come before the commit or at it
abbrev pub IsRefusal : MigrateFault → Type 0
IsRefusal AlreadyNew = ⊤
IsRefusal (UnknownSchema n) = ⊤
IsRefusal Store = ⊥
IsRefusal Memory = ⊥

abbrev pub IsFault : MigrateFault → Type 0
IsFault why = (why ≡ Store) ⊎ (why ≡ Memory)

-- more events, or more journeys, than a file may have
abbrev pub too_many : ℕ
too_many = 2 ^ 62

-- there are no more of them than a file may have
pub record HasFew (m : Meta) : Type 0 where
  pub events : m.events < too_many
  pub journeys : m.journeys < too_many

-- a version that is not migrated is refused by its number, and Store reports numbers that no file has
abbrev pub RefusesNumbers : Meta → MigrateFault → Type 0
RefusesNumbers m AlreadyNew = m.version ≡ 2
RefusesNumbers m (UnknownSchema n) = (n ≡ m.version) × (n ≢ 1) × (n ≢ 2)
RefusesNumbers m Store = (m.version ≡ 1) × ((too_many ≤ m.events) ⊎ (too_many ≤ m.journeys))
RefusesNumbers m Memory = ⊥

-- numbers of version 1, of which there are no more than a file may have, are accepted
pub record AcceptsNumbers (meta m : Meta) : Type 0 where
  pub same : m ≡ meta
  pub version : m.version ≡ 1
  pub few : HasFew m

-- what comes of numbers that were read
abbrev pub JudgesOld : Meta → Result Meta MigrateFault → Type 0
JudgesOld meta (Ok m) = AcceptsNumbers meta m
JudgesOld meta (Err why) = RefusesNumbers meta why

module _ {S : Type 0} (g : Ghosts S) (old new : Held S) where
  -- the state that the connection represented in tables of version 1 is kept in tables of version 2
  abbrev pub BringsOver : Type 0
  BringsOver =
      HasCleanDisk (state g new) → (s : State) → StoodFor One (state g old) s → IsKeptIn Two (state g new) s

  -- the number is that of the events of each state that the connection represented in tables of version 1
  abbrev pub CountsEvents : ℕ → Type 0
  CountsEvents n = HasCleanDisk (state g new) → (s : State) → StoodFor One (state g old) s → n ≡ length s.ledger

  -- the connection represents what it represented, in tables of the same version, and a crash leaves nothing new
  pub record IsAsBefore : Type 0 where
    pub stands : (v : Version) (s : State) → StoodFor v (state g old) s → StoodFor v (state g new) s
    pub leaves : LeavesNoMore g old new

  -- whatever a crash leaves represents the same state in tables of version 2
  abbrev pub LeavesNew : Type 0
  LeavesNew =
      HasCleanDisk (state g new) → (s : State) → StoodFor One (state g old) s
      → (db : Trees) → (state g new).may_leave db → MeansIn Two db s

  -- whatever a crash leaves could be left before, and still represents the same state; or the connection represented
  -- the state in tables of version 1, and the trees represent it in tables of version 2
  abbrev pub LeavesEither : Type 0
  LeavesEither =
      HasCleanDisk (state g new) → (v : Version) (s : State) → StoodFor v (state g old) s
      → (db : Trees) → (state g new).may_leave db
      → ((state g old).may_leave db × MeansOf v db s) ⊎ ((v ≡ One) × MeansIn Two db s)

  -- if the connection is open, it shows the state that it represented, in tables of the same version
  abbrev pub ShowsAsBefore : Type 0
  ShowsAsBefore =
      HasCleanDisk (state g new) → (v : Version) (s : State) → StoodFor v (state g old) s
      → IsTrue (state g new).is_open → Shows v (state g new) s

  -- no open connection represented a state in tables of version 1
  abbrev pub WasNotOld : Type 0
  WasNotOld =
      HasCleanDisk (state g new) → IsTrue (state g old).is_open → (s : State) → StoodFor One (state g old) s → ⊥

  -- the connection represented no state in tables of version 2, and none in a store without tables
  abbrev pub WasNotNew : Type 0
  WasNotNew = HasCleanDisk (state g new) → (s : State) → StoodFor Two (state g old) s → ⊥

  -- the version is unknown: it is 0 and the store has no tables, or the tables have that version
  abbrev pub SawUnknown : ℕ → Type 0
  SawUnknown n =
      (n ≢ 1) × (n ≢ 2) × (((n ≡ 0) × ((state g old).now.schema ≡ no_schema)) ⊎ SawVersion g old new n)

  -- What a fault or a refusal reports of the old store.
  abbrev pub Tells : MigrateFault → Type 0
  Tells AlreadyNew = SawVersion g old new 2 × IsAsBefore
  Tells (UnknownSchema n) = SawUnknown n × IsAsBefore
  Tells Store = ⊤
  Tells Memory = IsAsBefore

  -- the numbers are those of each state that the connection represented in tables of version 1
  abbrev pub NumbersOld : Meta → Type 0
  NumbersOld m =
      HasCleanDisk (state g new) → (s : State) → StoodFor One (state g old) s → AreNumbersOf m s

  -- on tables of version 1 a success makes them tables of version 2
  abbrev pub WritesNew : {V : Type 0} → Result V Error → Meta → Type 0
  WritesNew result m =
      HasCleanDisk (state g new) → (t : Tables) → MayAdd (state g old) t
      → OnOk result (Sees (state g new) (migrated m t))

  -- tables of version 1 with these numbers are kept, with the same state, in tables of version 2
  abbrev pub BringsAll : Meta → Type 0
  BringsAll m =
      (s : State) → AreNumbersOf m s → KeepsIn One (state g old) s → KeepsIn Two (state g new) s

  -- whatever a crash leaves, from tables of version 1 with these numbers, is the new tables
  abbrev pub LeavesNewOf : Meta → Type 0
  LeavesNewOf m =
      HasCleanDisk (state g new) → (s : State) → AreNumbersOf m s → KeepsIn One (state g old) s
      → (db : Trees) → (state g new).may_leave db → MeansIn Two db s

  -- whatever a crash leaves, from tables of version 1 with these numbers, could be left before or is the new tables
  abbrev pub LeavesOneOf : Meta → Type 0
  LeavesOneOf m =
      HasCleanDisk (state g new) → (s : State) → AreNumbersOf m s → KeepsIn One (state g old) s
      → (db : Trees) → (state g new).may_leave db → (state g old).may_leave db ⊎ MeansIn Two db s

  -- if the connection is open, it shows the state that it kept in tables of version 1
  abbrev pub ShowsOld : Type 0
  ShowsOld =
      HasCleanDisk (state g new) → (s : State) → KeepsIn One (state g old) s
      → IsTrue (state g new).is_open → SeesOf One (state g new) s
