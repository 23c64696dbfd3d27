-- What one call of a conversation did: a read, a write, a 100 Continue.
use Rattle.std.specs.Prelude.{◌≡◌, ◌<◌, ◌≤◌, ℕ, Bool, true, false, List, length, take, Option, Result, Ok, IfOk, OnErr}
use Rattle.std.specs.Io.KnownBytes.{Appends, Consumes, IsAtEnd, Keeps}
use Rattle.http_conversations.specs.History.{GivesGoOn, HasNoGoOn, History, after_received, after_sent}

-- one read of a reader, by way of a buffer of so many bytes
pub record Receives {E : Type 0} (remains remaining : Option (List ℕ)) (room : ℕ) (result : Result ℕ E) (old new : History) : Type 0 where
  -- so many bytes came, and were added to what was received
  pub ok : IfOk result
      (λ count. (more : List ℕ) × (length more ≡ count) × Consumes remains remaining more × (new ≡ after_received old more))
  -- no more than the buffer has
  pub few : IfOk result (λ count. count ≤ room)
  -- where none came, the reader has ended
  pub ended : result ≡ Ok 0 → 0 < room → IsAtEnd remaining
  -- at a fault nothing changed
  pub err : OnErr result ((new ≡ old) × Keeps remains remaining)

-- one write of what is pending
pub record Sends {E : Type 0} (held holds : Option (List ℕ)) (result : Result ℕ E) (old new : History) : Type 0 where
  -- so many of the pending bytes were yielded
  pub ok : IfOk result (λ count. (new ≡ after_sent old count) × Appends held holds (take count old.pending))
  -- no more than were pending
  pub few : IfOk result (λ count. count ≤ length old.pending)
  -- at a fault nothing changed
  pub err : OnErr result ((new ≡ old) × Keeps held holds)

-- 100 Continue was given where it was due
pub record GivesIfDue {E : Type 0} (result : Result Bool E) (old new : History) : Type 0 where
  pub given : result ≡ Ok true → GivesGoOn old new
  -- it was not due
  pub none : result ≡ Ok false → HasNoGoOn old × (new ≡ old)
  -- at a fault nothing changed
  pub memory : OnErr result (new ≡ old)
