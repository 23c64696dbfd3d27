-- What the opening of a store finds.
use Rattle.std.specs.Prelude.{◌≡◌, ◌≢◌, ◌↔◌, ⊤, ℕ, ◌⊎◌, true, Result, Ok, Err}
use Rattle.sqlite.specs.Store.{Ghosts}
use Rattle.sqlite.specs.Held.{Held, state}
use Rattle.sqlite.specs.State.{HasCleanDisk}
use Rattle.sqlite.specs.Steps.{FailsToCommit}
use Rattle.sqlite.specs.declared.error.Error.TheVariants.{SqliteFailure}
use Rattle.sqlite.specs.declared.error.ErrorCode.TheVariants.{OutOfMemory}
use Rattle.commands.specs.declared.replies.Fault.{Fault}
use Rattle.commands.specs.declared.replies.Fault.TheVariants as faults
use Rattle.desk_sql.specs.declared.versions.Version.{Version}
use Rattle.desk_sql.specs.declared.versions.Version.TheVariants.{Two}
use Rattle.desk_sql.specs.Versions.{number_of, SawVersion}
use Rattle.desk_sql.specs.Calls.{Idle, LeavesNoMore, Makes}
use Rattle.desk_sql.specs.Causes.{IsUp, HasFaulted}
use Rattle.desk_sql.specs.Changes.{founded}
use Rattle.desk_sql.specs.Schema.{no_schema}
use Rattle.ledger.specs.Answer.{State}
use Rattle.sql_model.specs.Keeping.{WasClean}
use Rattle.sql_model.specs.Staying.{SeesAsBefore, StaysUp}
use Rattle.tables.specs.declared.faults.OpenFault.{OpenFault}
use Rattle.tables.specs.declared.faults.OpenFault.TheVariants.{UnknownSchema, Store, Memory}
use Rattle.tables.specs.Keeping.{IsKeptIn, KeepsIn, StoodFor}

-- the fault of an opening for a fault of the store
pub record IsOpeningFault (f : Fault) (fault : OpenFault) : Type 0 where
  pub memory : fault ≡ Memory ↔ f ≡ faults.Memory
  pub store : fault ≡ Store ↔ f ≡ faults.Store

module _ {S : Type 0} (g : Ghosts S) (old new : Held S) where
  -- the connection keeps the state that it represented, in tables of this version
  abbrev pub KeepsIt : Version → Type 0
  KeepsIt now =
      HasCleanDisk (state g new) → (v : Version) (s : State) → StoodFor v (state g old) s
      → IsKeptIn now (state g new) s

  -- the connection represents each state that it represented before
  abbrev pub StandsOn : Type 0
  StandsOn = (v : Version) (s : State) → StoodFor v (state g old) s → StoodFor v (state g new) s

  -- the connection represented states in tables of this version alone
  abbrev pub StoodOnlyIn : Version → Type 0
  StoodOnlyIn now =
      HasCleanDisk (state g new) → (v : Version) (s : State) → StoodFor v (state g old) s → v ≡ now

  -- the connection represented no state
  abbrev pub StoodForNone : Type 0
  StoodForNone =
      HasCleanDisk (state g new) → (v : Version) (s : State) → StoodFor v (state g old) s → ⊥

  -- While the store returns what was written, and the connection kept a desk in tables of this version: a fault of a store
  -- that was up says that its disk failed or refused meanwhile.
  abbrev pub FailsToOpen : OpenFault → Type 0
  FailsToOpen fault =
      HasCleanDisk (state g new) → (v : Version) (s : State) → KeepsIn v (state g old) s → IsUp (state g old)
      → fault ≡ Store → HasFaulted (state g old) (state g new)

  -- the tables have this version, which is not the newest, and the connection represented no state in tables of the newest
  abbrev pub SawOther : ℕ → Type 0
  SawOther n =
      (n ≢ 2) × SawVersion g old new n
      × (HasCleanDisk (state g new) → (s : State) → StoodFor Two (state g old) s → ⊥)

  -- a transaction that began here created the tables of a new desk, and its commit ran out of memory
  pub record FoundingRanOut : Type 0 where
    pub late : Held S
    pub founds : Makes (state g (record old { in_transaction = true })) (state g late) founded
    pub failed : FailsToCommit (state g late) (state g new) (SqliteFailure OutOfMemory)

  -- While the store returns what was written, and the connection had no tables: a fault of a store that was up says that its
  -- disk failed or refused meanwhile, or that the commit of the new tables ran out of memory.
  abbrev pub FailsToFound : OpenFault → Type 0
  FailsToFound fault =
      HasCleanDisk (state g new) → (state g old).now.schema ≡ no_schema → IsUp (state g old)
      → fault ≡ Store → HasFaulted (state g old) (state g new) ⊎ FoundingRanOut

  -- What a fault implies. An unknown version: the tables have it, and represented no state. Out of memory: a
  -- crash leaves nothing new.
  abbrev pub Tells : OpenFault → Type 0
  Tells (UnknownSchema n) =
      ((v : Version) → n ≢ number_of v) × SawVersion g old new n × StoodForNone
  Tells Store = ⊤
  Tells Memory = LeavesNoMore g old new

  -- A store was opened, with tables of this version.
  pub record Opens (now : Version) : Type 0 where
    -- each state that it represented is kept in these tables, and in tables of another version it represented none
    pub finds : KeepsIt now
    pub only : StoodOnlyIn now
    -- if it had tables, they are of this version
    pub version : SawVersion g old new (number_of now)
    -- the connection is as an opening asks for it
    pub idle : Idle new
    pub sound : WasClean g old new
    -- the store stays up; and if it had tables, it sees what it saw
    pub up : StaysUp g old new
    pub sees : old.schema ≢ no_schema → SeesAsBefore g old new

  -- A store could not be opened, for this fault.
  pub record FailsOpening (fault : OpenFault) : Type 0 where
    -- it represents what it represented
    pub stands : StandsOn
    pub told : Tells fault
    -- a failed store has a reason, where it kept a desk and where it had no tables
    pub store : FailsToOpen fault
    pub founds : FailsToFound fault
    -- the connection may be opened again
    pub idle : Idle new
    pub sound : WasClean g old new

  -- how an opening ends
  abbrev pub EndsOpening : Result Version OpenFault → Type 0
  EndsOpening (Ok now) = Opens now
  EndsOpening (Err fault) = FailsOpening fault
