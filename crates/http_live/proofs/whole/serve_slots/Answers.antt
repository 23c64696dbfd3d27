-- Once the desk was stopped nobody came.
use Rattle.http_live.proofs.DoorLemmas.{admits_left, admits_then}
use Rattle.http_live.proofs.whole.serve_slots.Goals as goal

pub returns-in-Stopped-clause-admits : goal.returns-in-Stopped-clause-admits
returns-in-Stopped-clause-admits g c =
    let served = c.serve_many.new.slots in
    admits_then c.args.slots.now served c.finish.new.slots c.in_ok-serve_many.ensures.in_time.turns.admits
    (admits_left served c.finish.new.slots c.finish.ensures.left)
