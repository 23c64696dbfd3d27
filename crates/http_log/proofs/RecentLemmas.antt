-- How many keys are remembered once one more is put. For Recent.
use Rattle.std.proofs.Common.{◌≡◌, ◌-◌, ◌≤◌, List, ap, arith, drop, length}
use Rattle.http_log.specs.Recent.{Pair, last_of, most_recent}

-- where there is one too many, the oldest is forgotten
pub one_over : (pairs : List Pair) → length pairs ≡ 1025 → last_of pairs ≡ drop 1 pairs
one_over pairs e = ap (λ n. drop (n - most_recent) pairs) e

-- where there are no more than may be, none is
pub none_over : (pairs : List Pair) → length pairs ≤ 1024 → last_of pairs ≡ pairs
none_over pairs few = let none : length pairs - most_recent ≡ 0 = omega (arith, few) in ap (λ n. drop n pairs) none
