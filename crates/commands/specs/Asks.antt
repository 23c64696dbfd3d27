-- Who asks, under which key, and with which text.
use Rattle.std.specs.Prelude.{ℕ, List}

pub record Asked : Type 0 where
  pub agent : List ℕ
  pub key : List ℕ
  pub text : List ℕ
