-- So many slots so far.
use Rattle.http_sockets.proofs.SlotLemmas.{AreNew}
use Rattle.http_sockets.proofs.places.Places.new.Given as goal

abbrev pub invariant-loop : goal.invariant-loop
invariant-loop l = AreNew l.places.items l.counter
