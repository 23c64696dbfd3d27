-- The save-points so far stand at the positions so far.
use Rattle.std.proofs.Common.{◌≡◌, ◌==◌, ℕ, take}
use Rattle.std.specs.List.{list_any}
use Rattle.plan.specs.Marks.{is_taken_in}
use Rattle.sql_reads.proofs.telling.marks_told.Given as goal

abbrev pub invariant-loop-at : goal.invariant-loop-at
invariant-loop-at l = (p : ℕ) → is_taken_in l.marks p ≡ list_any (λ q. q == p) (take l.at-index l.found)
