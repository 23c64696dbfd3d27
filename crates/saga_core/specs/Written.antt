-- What was written to a writer whose bytes are known.
use Rattle.std.specs.Prelude.{ℕ, List, take, Option}
use Rattle.std.specs.Io.KnownBytes.{Appends}

-- a prefix of these bytes was appended to what the writer held
abbrev pub WroteFront : Option (List ℕ) → Option (List ℕ) → List ℕ → Type 0
WroteFront held holds bytes = (part : ℕ) × Appends held holds (take part bytes)
