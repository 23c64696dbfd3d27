-- What a query leaves of its connection if its rows could not be started.
use Rattle.std.specs.Prelude.{Result}
use Rattle.std.specs.Borrow.{Fml, MutBor, RattleType, RestsIfErr}
use Rattle.sqlite.specs.Store.{Ghosts}
use Rattle.sqlite.specs.Held.{Held}
use Rattle.sqlite.specs.declared.error.Error.{Error}
use Rattle.sqlite.specs.declared.rows.stream.Rows.{Rows}
use Rattle.sqlite.specs.contracts.connection.Connection as connection
use Rattle.desk_sql.specs.Calls.{Quiet}
use Rattle.desk_sql.specs.Causes.{FailsForReasonEach}
use Rattle.desk_sql.specs.Readable.{Any}

-- the call was quiet, and its failure has a reason
pub record IsNotBegun {S : Type 0} (g : Ghosts S) {V : Type 0} (result : Result V Error) (old new : Held S) : Type 0 where
  pub quiet : Quiet g old new
  pub reason : FailsForReasonEach g old new result Any

module _ (S : RattleType) (g : Ghosts S.Denot) where
  -- if the rows could not be started, that becomes of the connection; else the rows borrow it
  abbrev pub LeavesIfErr : MutBor (Held S.Denot) → Result (Rows S.Denot g) Error → Fml
  LeavesIfErr c r =
      RestsIfErr (connection.the_row S g) c (λ it. it.conn.ghost_name) r (λ last. IsNotBegun g r c.now last)
