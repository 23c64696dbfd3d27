-- The state before an execution is a desk's state.
use Rattle.sql_model.proofs.Accepting.{each_world_is_a_desk}
use Rattle.sql_model.proofs.laws.desks.Goals as goal

pub returns : goal.returns
returns c = record { desk = each_world_is_a_desk }
