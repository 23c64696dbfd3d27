-- What adding the index on the agents of the journeys comes to.
use Rattle.std.specs.Prelude.{◌≡◌, ◌≢◌, ◌⊎◌, ⊤, length, Result, Ok, Err}
use Rattle.sqlite.specs.Store.{Ghosts}
use Rattle.sqlite.specs.Held.{Held, state}
use Rattle.sqlite.specs.State.{HasCleanDisk}
use Rattle.desk_sql.specs.declared.versions.Version.{Version}
use Rattle.desk_sql.specs.declared.versions.Version.TheVariants.{Two}
use Rattle.desk_sql.specs.declared.meta.Meta.{Meta}
use Rattle.desk_sql.specs.FoundRows.{meta_of}
use Rattle.desk_sql.specs.Indexing.{HasExtra}
use Rattle.desk_sql.specs.Schema.{no_schema}
use Rattle.desk_sql.specs.Versions.{SawVersion}
use Rattle.ledger.specs.Answer.{State}
use Rattle.ledger.specs.Ledger.{journeys}
use Rattle.sql_model.specs.ExpectedRows.{meta_in}
use Rattle.sql_model.specs.Keeping.{KeepsIn, StoodFor}
use Rattle.tables.specs.Migrating.{IsFault}
use Rattle.tables.specs.declared.migrate_faults.MigrateFault.{MigrateFault}
use Rattle.tables.specs.declared.migrate_faults.MigrateFault.TheVariants.{AlreadyNew, UnknownSchema, Store, Memory}
use Rattle.tables.specs.declared.indexing.Indexed.{Indexed}

-- numbers that were read are returned if they are of the newest version, and else refused by their version
abbrev pub JudgesNewest : Meta → Result Meta MigrateFault → Type 0
JudgesNewest meta (Ok m) = (m ≡ meta) × (m.version ≡ 2)
JudgesNewest meta (Err why) = (why ≡ UnknownSchema meta.version) × (meta.version ≢ 2)

module _ {S : Type 0} (g : Ghosts S) (old new : Held S) where
  -- the connection represents each state that it represented, in tables of the same version, and a crash leaves just that state
  abbrev pub StandsOn : Type 0
  StandsOn = (v : Version) (s : State) → StoodFor v (state g old) s → StoodFor v (state g new) s

  -- it keeps each state that it kept, in tables of the newest version
  abbrev pub Keeps : Type 0
  Keeps = (s : State) → KeepsIn Two (state g old) s → KeepsIn Two (state g new) s

  -- its tables have an index beside those of their keys, if they represented a state
  abbrev pub GivesIndex : Type 0
  GivesIndex = HasCleanDisk (state g new) → (s : State) → KeepsIn Two (state g old) s → HasExtra new.schema

  -- a success gives the index, and a failure is a fault
  abbrev pub EndsIndexing : {V : Type 0} → Result V MigrateFault → Type 0
  EndsIndexing (Ok v) = GivesIndex
  EndsIndexing (Err why) = IsFault why

  -- these are the numbers of tables of the newest version, and of the state that they represented
  pub record SawNewest (m : Meta) : Type 0 where
    pub version : SawVersion g old new 2
    pub filled : old.schema ≢ no_schema
    pub numbers : HasCleanDisk (state g new) → (s : State) → StoodFor Two (state g old) s → meta_of m ≡ meta_in Two s.ledger

  -- The tables are of the newest version, and have the index.
  pub record HasIndex (i : Indexed) : Type 0 where
    pub version : SawVersion g old new 2
    pub there : HasCleanDisk (state g new) → (s : State) → StoodFor Two (state g old) s → HasExtra new.schema
    pub counted : HasCleanDisk (state g new) → (s : State) → StoodFor Two (state g old) s → i.journeys ≡ length (journeys s.ledger)

  -- a store without tables is refused as of version 0, and tables of another version by its number; the others are faults
  abbrev pub RefusesIndex : MigrateFault → Type 0
  RefusesIndex AlreadyNew = ⊥
  RefusesIndex (UnknownSchema n) = (n ≢ 2) × (((n ≡ 0) × (old.schema ≡ no_schema)) ⊎ SawVersion g old new n)
  RefusesIndex Store = ⊤
  RefusesIndex Memory = ⊤

  -- what comes of reading the numbers of tables of the newest version
  abbrev pub TriesNewest : Result Meta MigrateFault → Type 0
  TriesNewest (Ok m) = SawNewest m
  TriesNewest (Err why) = RefusesIndex why
