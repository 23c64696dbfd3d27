use Rattle.http_messages.specs.Places.{WentThrough}
use Rattle.http_messages.proofs.places.decided_front.Given as goal

-- the walk went through the bytes so far
abbrev pub invariant-loop-at : goal.invariant-loop-at
invariant-loop-at l = WentThrough l.bytes l.at l.place
