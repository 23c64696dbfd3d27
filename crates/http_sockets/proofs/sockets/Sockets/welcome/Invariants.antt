-- Nobody took a slot so far.
use Rattle.http_sockets.specs.Turns.{IsTurnedAway}
use Rattle.http_sockets.proofs.sockets.Sockets.welcome.Given as goal

abbrev pub invariant-loop : goal.invariant-loop
invariant-loop l = IsTurnedAway l.initial.self l.self
