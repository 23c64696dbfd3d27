-- Tables that were just created represent a new desk. For Worlds, and for the opening of a store.
use Rattle.std.proofs.Common.{arith, rules}
use Rattle.ledger.specs.Answer.{start}
use Rattle.desk_sql.specs.Changes.{founded}
use Rattle.sql_model.specs.Standing.{StandsFor, IsDesk}

-- without events the tables have one row, that of meta
pub founded_stands : StandsFor founded start
founded_stands = search (rules, arith)

-- the state of a new desk is a desk's state
pub start_is_desk : IsDesk start
start_is_desk = record { legal = tt; keepable = λ agent key. tt }
