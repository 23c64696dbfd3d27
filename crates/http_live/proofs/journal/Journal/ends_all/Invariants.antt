use Rattle.std.proofs.Common.{◌≡◌, ◌<◌, ◌≤◌, ℕ, false, length, slice_get}
use Rattle.http_live.specs.Ends.{counted_ends, is_taken}
use Rattle.http_live.proofs.journal.Journal.ends_all.Given as goal

-- nobody is at the slots so far, whose ends were counted, and the others are as they were
abbrev pub invariant-loop-at : goal.invariant-loop-at
invariant-loop-at l =
    record {
      count : length l.self.slots.items ≡ length l.initial.self.slots.items;
      counted : l.self.metrics ≡ counted_ends l.at l.initial.self.slots.items l.initial.self.metrics;
      gone : (k : ℕ) → k < l.at → is_taken l.self.slots.items k ≡ false;
      others : (k : ℕ) → l.at ≤ k → slice_get l.self.slots.items k ≡ slice_get l.initial.self.slots.items k;
    }
