-- Those before this one were changed.
use Rattle.std.proofs.Common.{◌≡◌, ◌++◌, map, take, drop}
use Rattle.http_log.specs.Counting.{counted}
use Rattle.http_log.proofs.counting.count_one.Given as goal

abbrev pub invariant-loop-at : goal.invariant-loop-at
invariant-loop-at l = l.counts ≡ map (counted l.word) (take l.at l.initial.counts) ++ drop l.at l.initial.counts
