-- That the ends of a connection agree with what its conversation received and yielded.
use Rattle.std.specs.Prelude.{◌≡◌, ℕ, List, [], ◌∷◌, Option}
use Rattle.std.specs.Io.KnownBytes.{Appends, Consumes}

-- since its two ends came, these bytes were read from the one, and these were written to the other
pub record Faithful {R W : Type 0} (remaining : R → Option (List ℕ)) (contents : W → Option (List ℕ))
    (came : List (R × W)) (reader : R) (writer : W) (received sent : List ℕ) : Type 0 where
  pub first_reader : R
  pub first_writer : W
  pub were : came ≡ (first_reader, first_writer) ∷ []
  pub read : Consumes (remaining first_reader) (remaining reader) received
  pub written : Appends (contents first_writer) (contents writer) sent
