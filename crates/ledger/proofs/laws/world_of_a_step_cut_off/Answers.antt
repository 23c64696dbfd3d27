-- The law is used as it stands.
use Rattle.std.proofs.Common.{◌∷◌, []}
use Rattle.ledger.specs.KeyExamples.{ann, step_cut_off, step_cut_off_is_a_world}
use Rattle.ledger.proofs.laws.world_of_a_step_cut_off.Goals as goal

pub returns : goal.returns
returns c =
    let it = c.worlds.ensures.sound step_cut_off step_cut_off_is_a_world in
    record { legal = it.legal; events = it.events; once = it.once ann (109 ∷ []) }
