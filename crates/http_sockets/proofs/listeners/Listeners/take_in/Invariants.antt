-- Slots wait that did not so far.
use Rattle.http_sockets.specs.Places.{slots_of}
use Rattle.http_sockets.specs.Slots.{AddWaiting}
use Rattle.http_sockets.proofs.listeners.Listeners.take_in.Given as goal

abbrev pub invariant-loop-event : goal.invariant-loop-event
invariant-loop-event l = AddWaiting (slots_of l.initial.places) (slots_of l.places)
