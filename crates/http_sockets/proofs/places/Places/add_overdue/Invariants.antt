-- The late slots so far were added.
use Rattle.std.proofs.Common.{◌≡◌, ◌++◌, take}
use Rattle.http_sockets.specs.Slots.{overdue_from}
use Rattle.http_sockets.proofs.places.Places.add_overdue.Given as goal

abbrev pub invariant-loop-at : goal.invariant-loop-at
invariant-loop-at l = l.overdue.items ≡ l.initial.overdue.items ++ overdue_from l.tick l.patience 0 (take l.at l.place-items)
