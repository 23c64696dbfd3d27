-- One more.
use Rattle.std.proofs.Common.{refl}
use Rattle.http_sockets.proofs.SlotLemmas.{new_more}
use Rattle.http_sockets.proofs.places.Places.new.Goals as goal

pub loop-preserved : goal.loop-preserved
loop-preserved c = rw c.in_ok-push.ensures.items (new_more c.loop.places.items c.loop.counter _ c.loop.invariant refl refl)
