use Rattle.std.proofs.Common.{◌≡◌, All, length}
use Rattle.http_live.specs.Calls.{IsEmpty}
use Rattle.http_live.proofs.slots.empty_slots.Given as goal

-- as many slots as were counted, without any connection
abbrev pub invariant-loop : goal.invariant-loop
invariant-loop g l = record { count : length l.slots.items ≡ l.counter; empty : All IsEmpty l.slots.items }
