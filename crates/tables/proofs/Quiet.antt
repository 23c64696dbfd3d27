-- A quiet call leaves the state that the connection represented. For read_old, and for what follows it in migrate.
use Rattle.std.proofs.Common.{IsTrue, rules, arith}
use Rattle.sqlite.specs.Store.{Ghosts}
use Rattle.sqlite.specs.Held.{Held, state}
use Rattle.sqlite.specs.State.{HasCleanDisk}
use Rattle.desk_sql.specs.declared.versions.Version.{Version}
use Rattle.desk_sql.specs.Calls.{Quiet}
use Rattle.ledger.specs.Answer.{State}
use Rattle.sql_model.specs.Keeping.{SeesOf, SeesNew, Sees}
use Rattle.sql_model.proofs.KeepLemmas.{same_desk}
use Rattle.sql_model.proofs.Quieting.{quiet_clean, quiet_leaves, quiet_sees}
use Rattle.tables.specs.Migrating.{IsAsBefore}

module _ {S : Type 0} (g : Ghosts S) (old new : Held S) (it : Quiet g old new) where
  module _ (s : State) (clean : HasCleanDisk (state g new)) (live : IsTrue (state g new).is_open) where
    -- what it saw was committed, so it sees the same
    desk_again : {v : Version} → SeesOf v (state g old) s → SeesOf v (state g new) s
    desk_again saw = search (rules, arith, same_desk, quiet_sees)

    new_again : SeesNew (state g old) s → SeesNew (state g new) s
    new_again saw = search (rules, arith, quiet_sees)

    sees_again : (v : Version) → Sees v (state g old) s → Sees v (state g new) s
    sees_again v saw = search (rules, arith, desk_again, new_again)

  pub as_before : IsAsBefore g old new
  as_before = search (rules, arith, quiet_clean, sees_again, quiet_sees, quiet_leaves)
