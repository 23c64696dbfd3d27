-- Calls of a reader over a stream that arrives in pieces of any size.
use Rattle.std.specs.Prelude.{ℕ, ◌↔◌, List, ◌++◌, drop}
use Rattle.http_messages.specs.declared.framing.BodyKind.{BodyKind}
use Rattle.http_messages.specs.Bodies.{Awaits, Ends, Goes, IsBody, Reading}

-- the reader is at the beginning of a body of this kind
abbrev pub IsAtBeginning : BodyKind → Reading → Type 0
IsAtBeginning kind r = (stream body rest : List ℕ) → IsBody kind stream body rest ↔ Awaits r stream body rest

-- Each call is given a prefix of the bytes that were not used, and `more` has yet to arrive. The caller drops what was
-- used, and calls again until the body is whole: then it is this one, and the rest of the stream follows it.
pub data Calls : Reading → List ℕ → List ℕ → List ℕ → Type 0 where
  goes_on : (old new : Reading) (input more : List ℕ) (count : ℕ) (body rest : List ℕ) → Goes old input new count → Calls new (drop count input ++ more) body rest → Calls old (input ++ more) body rest
  finds_end : (old new : Reading) (input more : List ℕ) (count : ℕ) → Ends old input new count → Calls old (input ++ more) new.body (drop count input ++ more)
