-- What is known of the streams of a job, before it and after it.
use Rattle.std.specs.Prelude.{◌≡◌, ℕ, List, Option}

-- What is left to be read of the input, at first and then, and what the output and the notes have, at first and then.
pub record Streams : Type 0 where
  pub input : Option (List ℕ)
  pub rest : Option (List ℕ)
  pub held : Option (List ℕ)
  pub holds : Option (List ℕ)
  pub noted : Option (List ℕ)
  pub notes : Option (List ℕ)

abbrev pub streams : (input rest held holds noted notes : Option (List ℕ)) → Streams
streams input rest held holds noted notes =
    record { input = input; rest = rest; held = held; holds = holds; noted = noted; notes = notes }

-- nothing was read or noted
pub record IsOnlyWritten (t : Streams) : Type 0 where
  pub unread : t.rest ≡ t.input
  pub unnoted : t.notes ≡ t.noted

-- nothing was read, written or noted
pub record IsUntouched (t : Streams) : Type 0 where
  pub only : IsOnlyWritten t
  pub unwritten : t.holds ≡ t.held
