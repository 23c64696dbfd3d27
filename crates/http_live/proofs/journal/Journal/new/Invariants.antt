use Rattle.std.proofs.Common.{◌≡◌, All, length}
use Rattle.http_live.specs.Ends.{IsNobody}
use Rattle.http_live.proofs.journal.Journal.new.Given as goal

-- as many slots as were counted, at which nobody is
abbrev pub invariant-loop : goal.invariant-loop
invariant-loop l = record { count : length l.slots.items ≡ l.counter; nobody : All IsNobody l.slots.items }
