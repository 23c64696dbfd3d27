-- What was received of a reader.
use Rattle.std.specs.Prelude.{ℕ, List, Option}
use Rattle.std.specs.Io.KnownBytes.{Consumes, IsAtEnd}

-- a reader was read to its end, and this holds of the bytes that came
pub record Received (before after : Option (List ℕ)) (So : List ℕ → Type 0) : Type 0 where
  pub came : List ℕ
  pub read : Consumes before after came
  pub ended : IsAtEnd after
  pub so : So came
