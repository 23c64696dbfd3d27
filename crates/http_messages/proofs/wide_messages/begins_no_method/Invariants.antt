use Rattle.std.proofs.Common.{◌≡◌, length}
use Rattle.http_messages.specs.Wide.{begins_no_method}
use Rattle.http_messages.proofs.wide_messages.begins_no_method.Given as goal

-- the bytes so far are line ends
abbrev pub invariant-loop-left : goal.invariant-loop-left
invariant-loop-left l = begins_no_method l.left ≡ begins_no_method l.bytes

abbrev pub decreases-loop-left : goal.decreases-loop-left
decreases-loop-left l = length l.left
