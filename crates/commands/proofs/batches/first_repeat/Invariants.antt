use Rattle.std.proofs.Common.{◌≡◌, take, drop}
use Rattle.commands.specs.Batches.{repeat_among, repeat_behind}
use Rattle.commands.proofs.RepeatLemmas.{HasCellsOf}
use Rattle.commands.proofs.batches.first_repeat.Given as goal

-- the rows so far have no cell twice, and the set has their cells
abbrev pub invariant-loop-i : goal.invariant-loop-i
invariant-loop-i l =
    (repeat_among l.rows ≡ repeat_behind (take l.i l.rows) (drop l.i l.rows)) × HasCellsOf l.seen (take l.i l.rows)
