-- What a quiet call leaves of the desk that a connection kept. For the functions that read, in the crates above.
use Rattle.std.proofs.Common.{arith, rules}
use Rattle.sqlite.specs.Store.{Ghosts}
use Rattle.sqlite.specs.Held.{Held, state}
use Rattle.desk_sql.specs.Calls.{Quiet}
use Rattle.sql_model.specs.Keeping.{WasClean, KeepsEach, LeavesAsBefore}
use Rattle.sql_model.specs.Staying.{SeesAsBefore, StaysUp}
use Rattle.sql_model.proofs.KeepLemmas.{left_before, same_desk}
use Rattle.sql_model.proofs.Staying.{stays_up}

module _ {S : Type 0} (g : Ghosts S) (old new : Held S) (it : Quiet g old new) where
  -- a store that returns what was written did so before
  pub quiet_clean : WasClean g old new
  quiet_clean clean = omega (arith, it.survives.clean)

  -- a crash leaves nothing that it could not have left before
  pub quiet_leaves : LeavesAsBefore g old new
  quiet_leaves = left_before (state g old) (state g new) it.survives

  -- a store that was up stays up, or its disk fails or refuses
  pub quiet_up : StaysUp g old new
  quiet_up = stays_up g old new it.survives

  -- the connection sees what it saw
  pub quiet_sees : SeesAsBefore g old new
  quiet_sees = search (rules, arith)

  -- and keeps each state that it kept
  pub quiet_keeps : KeepsEach g old new
  quiet_keeps v s keeps clean = search (rules, arith, quiet_clean, same_desk, quiet_leaves)
