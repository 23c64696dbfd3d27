-- The best of the slots so far, of which none is free.
use Rattle.http_sockets.proofs.SlotLemmas.{QuietSoFar}
use Rattle.http_sockets.proofs.places.Places.choose.Given as goal

abbrev pub invariant-loop-at : goal.invariant-loop-at
invariant-loop-at l = QuietSoFar l.place-items l.at l.best l.oldest
