-- What a read of rows leaves of its connection if the rows could not be started.
use Rattle.std.specs.Prelude.{Result, IfErr}
use Rattle.std.specs.Borrow.{Fml, MutBor, RattleType, RestsIfErr}
use Rattle.sqlite.specs.Store.{Ghosts}
use Rattle.sqlite.specs.Held.{Held, state}
use Rattle.sqlite.specs.State.{HasCleanDisk}
use Rattle.sqlite.specs.declared.error.Error.{Error}
use Rattle.sqlite.specs.declared.rows.stream.Rows.{Rows}
use Rattle.sqlite.specs.contracts.connection.Connection as connection
use Rattle.desk_sql.specs.Calls.{Quiet}
use Rattle.desk_sql.specs.declared.versions.Version.{Version}
use Rattle.desk_sql.specs.Causes.{IsUp, HasReason}
use Rattle.ledger.specs.Answer.{State}
use Rattle.sql_model.specs.Keeping.{KeepsIn}

module _ {S : Type 0} (g : Ghosts S) {V : Type 0} (result : Result V Error) (old new : Held S) where
  -- on a desk that is kept, a store that was up fails only out of memory, or where its disk failed or refused
  abbrev pub FailsToStart : Type 0
  FailsToStart =
      HasCleanDisk (state g new) → (v : Version) (s : State) → KeepsIn v (state g old) s → IsUp (state g old)
      → IfErr result (HasReason (state g old) (state g new))

  -- the rows could not be started, for a reason, and nothing changes
  pub record IsNotStarted : Type 0 where
    pub reason : FailsToStart
    pub quiet : Quiet g old new

module _ (S : RattleType) (g : Ghosts S.Denot) where
  -- if the rows could not be started, the connection is left so; else the rows borrow it
  abbrev pub LeavesIfErr : MutBor (Held S.Denot) → Result (Rows S.Denot g) Error → Fml
  LeavesIfErr c r =
      RestsIfErr (connection.the_row S g) c (λ it. it.conn.ghost_name) r (λ last. IsNotStarted g r c.now last)
