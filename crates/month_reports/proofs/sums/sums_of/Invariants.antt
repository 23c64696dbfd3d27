-- The sums of the first cells so far, and their bounds.
use Rattle.std.proofs.Common.{◌≡◌, ◌*◌, ◌≤◌, take}
use Rattle.month_reports.specs.Summaries.{sums_of}
use Rattle.month_reports.proofs.sums.sums_of.Given as goal

abbrev pub invariant-loop-row : goal.invariant-loop-row
invariant-loop-row l =
    record {
      nights : l.sums.nights ≡ l.row-index;
      allot : l.sums.allot ≡ (sums_of (take l.row-index l.cells)).allot;
      held : l.sums.held ≡ (sums_of (take l.row-index l.cells)).held;
      free : l.sums.free ≡ (sums_of (take l.row-index l.cells)).free;
      allot_small : l.sums.allot ≤ 100000 * l.row-index;
      held_small : l.sums.held ≤ 100000 * l.row-index;
      free_small : l.sums.free ≤ 100000 * l.row-index;
    }
