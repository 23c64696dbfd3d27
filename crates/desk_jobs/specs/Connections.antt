-- What a connection represents of a desk, and what a crash may leave of it.
use Rattle.sqlite.specs.Store.{Ghosts}
use Rattle.sqlite.specs.Held.{Held, state}
use Rattle.commands.specs.declared.replies.Refusal.{Refusal}
use Rattle.commands.specs.declared.replies.Refusal.TheVariants.{UnknownSchema}
use Rattle.desk_sql.specs.declared.versions.Version.{Version}
use Rattle.desk_sql.specs.declared.versions.Version.TheVariants.{Two}
use Rattle.ledger.specs.Answer.{State}
use Rattle.sql_model.specs.Standing.{IsDesk}
use Rattle.tables.specs.Keeping.{MayLeave, StoodFor}
use Rattle.tables.specs.Opening.{SawOther}

module _ {S : Type 0} (g : Ghosts S) (h : Held S) where
  -- an opening finds this state of a desk in the connection, in tables of this version
  pub record RepresentsIn (v : Version) (s : State) : Type 0 where
    pub desk : IsDesk s
    pub stood : StoodFor v (state g h) s

  -- the same, in tables of the newest version, or without tables where the desk is new
  abbrev pub Represents : State → Type 0
  Represents s = RepresentsIn Two s

  -- whatever a crash leaves of the connection represents one of these two states
  abbrev pub MayBeLeft : State → State → Type 0
  MayBeLeft s t = MayLeave (state g h) s t

  -- an opening finds this state in the connection, in tables of some version
  abbrev pub StillRepresents : State → Type 0
  StillRepresents s = (v : Version) × RepresentsIn v s

module _ {S : Type 0} (g : Ghosts S) (old new : Held S) where
  -- the refusal names the version of the tables, which is not the newest; in tables of the newest nothing was represented
  abbrev pub RefusesOtherTables : Refusal → Type 0
  RefusesOtherTables (UnknownSchema n) = SawOther g old new n
  RefusesOtherTables _ = ⊥
