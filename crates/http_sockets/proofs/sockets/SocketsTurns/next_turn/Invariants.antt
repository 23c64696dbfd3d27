-- Slots wait that did not so far.
use Rattle.http_sockets.specs.Slots.{AddWaiting}
use Rattle.http_sockets.specs.Turns.{slots_in}
use Rattle.http_sockets.proofs.sockets.SocketsTurns.next_turn.Given as goal

abbrev pub invariant-loop : goal.invariant-loop
invariant-loop l = AddWaiting (slots_in l.initial.self) (slots_in l.self)
