-- The result of making a batch, unless it is out of memory.
use Rattle.std.specs.Prelude.{◌≡◌, ⊤, Result, Ok, Err}
use Rattle.commands.specs.BatchData.{Batched}
use Rattle.commands.specs.declared.batches.BadBatch.{BadBatch}
use Rattle.commands.specs.declared.batches.BadBatch.TheVariants.{Count, Twice, Memory}

-- the result is this, unless it is out of memory
abbrev pub IsMade : Result Batched BadBatch → Result Batched BadBatch → Type 0
IsMade made (Ok batch) = made ≡ Ok batch
IsMade made (Err Count) = made ≡ Err Count
IsMade made (Err Twice) = made ≡ Err Twice
IsMade made (Err Memory) = ⊤
