-- Rows that could not be started. For `start_stock` and `start_above`.
use Rattle.std.proofs.Common.{Result, OnErr, arith, rules}
use Rattle.sqlite.specs.declared.error.Error.{Error}
use Rattle.sqlite.specs.Store.{Ghosts}
use Rattle.sqlite.specs.Held.{Held}
use Rattle.desk_sql.specs.Lending.{IsNotBegun}
use Rattle.sql_reads.specs.Lending.{IsNotStarted}
use Rattle.sql_model.proofs.KeepLemmas.{seen_by}
use Rattle.sql_model.proofs.Quieting.{quiet_clean}

pub not_started : {S : Type 0} (g : Ghosts S) (old new : Held S) {V : Type 0} (r : Result V Error)
    → OnErr r (IsNotBegun g r old new) → OnErr r (IsNotStarted g r old new)
not_started g old new r failed = search (rules, arith, seen_by, quiet_clean)
