-- What a book remembers of the journeys that have finished.
use Rattle.std.specs.Prelude.{◌≡◌, ◌≤◌, ◌-◌, ℕ, List, Option, Some, None, length, false}
use Rattle.ledger.specs.History.{is_open}
use Rattle.ledger.specs.Ledger.{Event, journeys, is_in}
use Rattle.saga_core.specs.declared.records.Brief.{Brief}

-- so many journeys have begun, and none of them is open
pub record AreFinishedTo (l : List Event) (n : ℕ) : Type 0 where
  pub begun : n ≤ length (journeys l)
  pub closed : (j : ℕ) → j ≤ n → is_in is_open l j ≡ false

-- up to which number all journeys have finished, where this is the first one that has not, or none is
abbrev pub finished_by : List Event → Option Brief → ℕ
finished_by l (Some b) = b.id - 1
finished_by l None = length (journeys l)
