-- Slots wait that did not so far.
use Rattle.http_sockets.specs.Slots.{AddWaiting}
use Rattle.http_sockets.specs.Turns.{slots_in}
use Rattle.std.proofs.Common.{◌≡◌}
use Rattle.http_sockets.proofs.sockets.SocketsTurns.stop.Given as goal

abbrev pub invariant-loop-at : goal.invariant-loop-at
invariant-loop-at l = AddWaiting (slots_in l.initial.self) (slots_in l.self) × (l.self.to_come ≡ l.initial.self.to_come)
    × (l.self.last ≡ l.initial.self.last)
