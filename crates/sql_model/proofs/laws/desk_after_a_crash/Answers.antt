-- The law is used as it stands.
use Rattle.ledger.specs.KeyExamples.{step_cut_off, step_cut_off_is_a_world}
use Rattle.sql_model.proofs.laws.desk_after_a_crash.Goals as goal

pub returns : goal.returns
returns c = record { desk = c.desks.ensures.desk step_cut_off step_cut_off_is_a_world }
