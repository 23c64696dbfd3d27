-- A read of the desk that a connection keeps: what it shows, why it fails, and what it leaves of the connection.
use Rattle.std.specs.Prelude.{Result, ⊤}
use Rattle.sqlite.specs.Store.{Ghosts}
use Rattle.sqlite.specs.Held.{Held}
use Rattle.commands.specs.declared.replies.Fault.{Fault}
use Rattle.desk_sql.specs.Calls.{Quiet}
use Rattle.desk_sql.specs.declared.versions.Version.{Version}
use Rattle.desk_sql.specs.declared.versions.Version.TheVariants.{Two}
use Rattle.ledger.specs.Answer.{State}
use Rattle.sql_reads.specs.Causes.{FailsWhere}
use Rattle.sql_reads.specs.Reading.{ShowsKeptIn}

-- each desk
abbrev pub AnyDesk : State → Type 0
AnyDesk s = ⊤

module _ {S : Type 0} (g : Ghosts S) (old new : Held S) where
  -- A read of tables of this version, whatever it returns: that is true of each desk that the connection kept; on a desk that
  -- fits, the read fails only for a reason; and nothing changes.
  pub record ReadIn (v : Version) {V : Type 0} (result : Result V Fault) (Fits : State → Type 0)
      (IsShown : State → V → Type 0) : Type 0 where
    pub shows : ShowsKeptIn g old new v result IsShown
    pub store : FailsWhere g old new v result Fits
    pub quiet : Quiet g old new

  -- the same, of tables of each version
  abbrev pub ReadEach : {V : Type 0} → Result V Fault → (State → Type 0) → (State → V → Type 0) → Type 0
  ReadEach result Fits IsShown = (v : Version) → ReadIn v result Fits IsShown

  -- the same, of tables of the newest version, where each desk fits
  abbrev pub Read : {V : Type 0} → Result V Fault → (State → V → Type 0) → Type 0
  Read result IsShown = ReadIn Two result AnyDesk IsShown
