use Rattle.std.proofs.Common.{◌-◌, length}
use Rattle.http_messages.specs.Bodies.{Moves}
use Rattle.http_messages.proofs.bodies.BodyReader.read.Given as goal

-- so many bytes were used, and the reader waits for the remainder
abbrev pub invariant-loop-count : goal.invariant-loop-count
invariant-loop-count l = Moves l.fn.self l.input l.self l.used

-- fewer bytes are left
abbrev pub decreases-loop-count : goal.decreases-loop-count
decreases-loop-count l = length l.input - l.used
