-- Byte after byte, no prefix is decided, until one is.
use Rattle.std.proofs.Common.{arith}
use Rattle.std.proofs.lemmas.Bool.{or_left}
use Rattle.http_messages.proofs.FirstLemmas.{none_told}
use Rattle.http_messages.proofs.PlaceLemmas.{told_first, went_on}
use Rattle.http_messages.proofs.places.decided_front.Goals as goal

-- here the prefix is decided
pub returns-then-is_told-clause-front : goal.returns-then-is_told-clause-front
returns-then-is_told-clause-front c = told_first _ _ _ _ c.loop-at-test.true c.loop-at.invariant c.next-place.ensures.place (grind (arith, or_left))

-- or none is so far
pub loop-at-preserved : goal.loop-at-preserved
loop-at-preserved c = went_on _ _ _ _ c.loop-at-test.true c.loop-at.invariant c.next-place.ensures.place (grind arith)

-- no prefix of all bytes is
pub returns-clause-none : goal.returns-clause-none
returns-clause-none c is = grind (arith, none_told)
