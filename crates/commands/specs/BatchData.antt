-- A batch as data: a name, and so many places of each of some cells.
use Rattle.std.specs.Prelude.{ℕ, List}
use Rattle.allotment.specs.declared.cells.Row.{Row}

-- a batch
pub record Batched : Type 0 where
  pub name : List ℕ
  pub rows : List Row
