-- Those before this one were changed.
use Rattle.std.proofs.Common.{◌≡◌, ◌++◌, map, take, drop}
use Rattle.http_log.specs.Counting.{bucketed}
use Rattle.http_log.proofs.counting.put.Given as goal

abbrev pub invariant-loop-at : goal.invariant-loop-at
invariant-loop-at l = l.buckets ≡ map (bucketed l.micros) (take l.at l.initial.buckets) ++ drop l.at l.initial.buckets
