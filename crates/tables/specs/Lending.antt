-- What was opened, what it keeps, and how it lends its connection.
use Rattle.std.specs.Prelude.{◌≡◌}
use Rattle.std.specs.Borrow.{Fml, Lends, MutBor, RattleType}
use Rattle.sqlite.specs.Store.{Ghosts}
use Rattle.sqlite.specs.Held.{Held, state}
use Rattle.sqlite.specs.contracts.connection.Connection as connection
use Rattle.desk_sql.specs.Calls.{Quiet}
use Rattle.ledger.specs.Answer.{State}
use Rattle.tables.specs.Keeping.{KeepsIn}
use Rattle.tables.specs.declared.opening.Opened.{Opened}
use Rattle.tables.specs.contracts.opening.Opened as opened

module _ {S : Type 0} (g : Ghosts S) where
  -- what was opened keeps the state, in tables of its version
  abbrev pub OpenedKeeps : Opened S → State → Type 0
  OpenedKeeps o s = KeepsIn o.version (state g o.conn) s

  -- what was opened was only read
  pub record IsOnlyRead (old new : Opened S) : Type 0 where
    pub version : new.version ≡ old.version
    pub quiet : Quiet g old.conn new.conn

module _ (S : RattleType) (g : Ghosts S.Denot) where
  -- what was opened ends with the connection that is left behind the reference
  abbrev pub LendsConnection : MutBor (Opened S.Denot) → MutBor (Held S.Denot) → Fml
  LendsConnection o r = Lends (opened.the_row S g) (connection.the_row S g) o r (λ w. record o.now { conn = w })
