-- What a connection keeps of a desk, and what a crash may leave of it.
use Rattle.std.specs.Prelude.{◌≡◌, ◌⊎◌, IsTrue}
use Rattle.sqlite.specs.Tree.{Trees}
use Rattle.sqlite.specs.Effect.{IsDatabase}
use Rattle.sqlite.specs.Store.{Ghosts}
use Rattle.sqlite.specs.Held.{Held, state}
use Rattle.sqlite.specs.State.{State as Connected, HasCleanDisk}
use Rattle.desk_sql.specs.declared.versions.Version.{Version}
use Rattle.desk_sql.specs.declared.versions.Version.TheVariants.{One, Two}
use Rattle.sqlite_schema.specs.declared.schema.Schema.{Schema}
use Rattle.desk_sql.specs.Schema.{IsSchemaOf, no_schema}
use Rattle.desk_sql.specs.Rows.{Tables, ShowsIn}
use Rattle.ledger.specs.Answer.{State, start}
use Rattle.sql_model.specs.Standing.{StandsIn}

-- the trees list a schema of this version, and obey it
pub record AreTreesOf (v : Version) (db : Trees) : Type 0 where
  pub schema : Schema
  pub known : IsSchemaOf v schema
  pub sound : IsDatabase (record { schema = schema; trees = db })

-- they do, and its tables represent the state
pub record MeansIn (v : Version) (db : Trees) (s : State) : Type 0 where
  pub of : AreTreesOf v db
  pub tables : Tables
  pub shown : ShowsIn v db tables
  pub stands : StandsIn v tables s

-- the same, for the newest version
abbrev pub MeansDesk : Trees → State → Type 0
MeansDesk db s = MeansIn Two db s

-- a store without tables represents a new desk
pub record MeansNew (db : Trees) (s : State) : Type 0 where
  pub of : IsDatabase (record { schema = no_schema; trees = db })
  pub new : s ≡ start

-- the state that the trees of a database of this version represent; a store without tables counts as
-- one of the newest version, whose tables it gets
abbrev pub MeansOf : Version → Trees → State → Type 0
MeansOf One db s = MeansIn One db s
MeansOf Two db s = MeansIn Two db s ⊎ MeansNew db s

-- the same, for the newest version
abbrev pub Means : Trees → State → Type 0
Means db s = MeansOf Two db s

-- whatever a crash leaves represents one of these two states
abbrev pub Leaves : Connected → State → State → Type 0
Leaves c s t = (db : Trees) → c.may_leave db → Means db s ⊎ Means db t

-- the connection sees the desk's tables of this version, committed, and they represent the state
pub record SeesOf (v : Version) (c : Connected) (s : State) : Type 0 where
  pub schema : IsSchemaOf v c.now.schema
  pub sound : IsDatabase c.now
  pub committed : c.now ≡ c.committed
  pub tables : Tables
  pub shown : ShowsIn v c.now.trees tables
  pub stands : StandsIn v tables s

-- the same, for the newest version
abbrev pub SeesDesk : Connected → State → Type 0
SeesDesk c s = SeesOf Two c s

-- if it is open, the connection sees a desk of this version with this state, and a crash leaves just
-- that state
pub record IsKeptIn (v : Version) (c : Connected) (s : State) : Type 0 where
  pub sees : IsTrue c.is_open → SeesOf v c s
  pub leaves : (db : Trees) → c.may_leave db → MeansOf v db s

-- the same, for the newest version
abbrev pub IsKept : Connected → State → Type 0
IsKept c s = IsKeptIn Two c s

-- while the store returns what was written, the connection keeps the state, in tables of this version
abbrev pub KeepsIn : Version → Connected → State → Type 0
KeepsIn v c s = HasCleanDisk c → IsKeptIn v c s

-- the same, in tables of the newest version
abbrev pub Keeps : Connected → State → Type 0
Keeps c s = KeepsIn Two c s

-- the connection sees a store without tables, and the state is that of a new desk
pub record SeesNew (c : Connected) (s : State) : Type 0 where
  pub schema : c.now.schema ≡ no_schema
  pub committed : c.now ≡ c.committed
  pub new : s ≡ start

-- the connection sees a desk of this version with this state; a store without tables counts as one of
-- the newest version, whose tables it gets
abbrev pub Sees : Version → Connected → State → Type 0
Sees One c s = SeesOf One c s
Sees Two c s = SeesOf Two c s ⊎ SeesNew c s

-- if it is open, the connection sees a desk of this version with this state, or a store without tables
-- if the state is that of a new desk; a crash leaves just that state
pub record IsFound (v : Version) (c : Connected) (s : State) : Type 0 where
  pub sees : IsTrue c.is_open → Sees v c s
  pub leaves : (db : Trees) → c.may_leave db → MeansOf v db s

-- if its disk is clean, the connection represents this state as found, and a crash leaves just that
abbrev pub StoodFor : Version → Connected → State → Type 0
StoodFor v c s = HasCleanDisk c → IsFound v c s

-- while the store returns what was written, what a crash leaves represents one of these two states
abbrev pub MayLeave : Connected → State → State → Type 0
MayLeave c s t = HasCleanDisk c → Leaves c s t

module _ {S : Type 0} (g : Ghosts S) (old new : Held S) where
  -- if the store returns what was written after the call, it did so before
  abbrev pub WasClean : Type 0
  WasClean = HasCleanDisk (state g new) → HasCleanDisk (state g old)

  -- the connection keeps each state that it kept, in tables of the same version
  abbrev pub KeepsEach : Type 0
  KeepsEach = (v : Version) (s : State) → KeepsIn v (state g old) s → KeepsIn v (state g new) s

  -- a crash leaves nothing that it could not have left before
  abbrev pub LeavesAsBefore : Type 0
  LeavesAsBefore =
      HasCleanDisk (state g new) → (db : Trees) → (state g new).may_leave db
      → (state g old).may_leave db
