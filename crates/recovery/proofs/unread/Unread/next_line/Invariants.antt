use Rattle.recovery.specs.Reading.{to_come}
use Rattle.recovery.proofs.LineLemmas.{IsBegun}
use Rattle.recovery.proofs.unread.Unread.next_line.Given as goal

-- the text that was taken so far is the start of a line
abbrev pub invariant-loop-self : goal.invariant-loop-self
invariant-loop-self g l =
    IsBegun (to_come l.fn.self (g.R.Read.remaining l.fn.reader)) (to_come l.self (g.R.Read.remaining l.reader)) l.line

-- each round reads at least one of the bytes that may still be read
abbrev pub decreases-loop-self : goal.decreases-loop-self
decreases-loop-self g l = l.self.left
