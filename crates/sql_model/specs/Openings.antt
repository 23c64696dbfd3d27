-- The state that a connection represents once it was opened.
use Rattle.std.specs.Prelude.{◌≡◌}
use Rattle.sqlite.specs.Tree.{Trees}
use Rattle.sqlite.specs.Store.{Ghosts}
use Rattle.sqlite.specs.Held.{Held, state}
use Rattle.sqlite.specs.State.{State as Connected, HasCleanDisk, IsLive, Opens}
use Rattle.desk_sql.specs.declared.versions.Version.{Version}
use Rattle.ledger.specs.Answer.{State}
use Rattle.sql_model.specs.Keeping.{MeansOf, StoodFor}

-- a crash leaves just what the connection shows
abbrev pub LeavesOnly : Connected → Type 0
LeavesOnly c = HasCleanDisk c → (db : Trees) → c.may_leave db → db ≡ c.now.trees

-- it was opened over trees that mean this state, in tables of this version, and a crash leaves just those
pub record IsOpenedOver (v : Version) (c : Connected) (s : State) : Type 0 where
  pub opens : Opens c
  pub live : IsLive c
  pub means : MeansOf v c.now.trees s
  pub only : (db : Trees) → c.may_leave db → db ≡ c.now.trees

-- a connection that was opened over trees that mean a state represents that state
abbrev pub StandsAsOpened : {S : Type 0} → Ghosts S → Held S → Type 0
StandsAsOpened g c =
    (v : Version) (s : State) → (HasCleanDisk (state g c) → IsOpenedOver v (state g c) s)
    → StoodFor v (state g c) s
