-- The body of a request: where it ends, which bytes it stands for, and what a reader of it still waits for.
use Rattle.std.specs.Prelude.{◌≡◌, ℕ, ◌+◌, ◌<◌, ◌≤◌, ◌⊎◌, List, [], ◌++◌, length, drop}
use Rattle.httparse.specs.Grammar.{Field}
use Rattle.http1.specs.Body.{ReadsBody, body_of}
use Rattle.http1.specs.ChunkedDecoder.{run}
use Rattle.http1.specs.Decoder.{AwaitsTrailers, Completes, decoder_for}
use Rattle.http1.specs.declared.conn.Limits.{Limits}
use Rattle.http1.specs.declared.decode.Decoder.{Decoder}
use Rattle.http1.specs.declared.decode.Decoder.TheVariants as decoder
use Rattle.http1.specs.declared.framing.Framing.{Framing}
use Rattle.http1.specs.declared.framing.Framing.TheVariants as framed
use Rattle.commands.specs.Limits.{most_bytes}
use Rattle.http_messages.specs.Heads.{most_fields, most_head_bytes}
use Rattle.http_messages.specs.declared.framing.BodyKind.{BodyKind}
use Rattle.http_messages.specs.declared.framing.BodyKind.TheVariants.{Sized, Chunked}
use Rattle.http_messages.specs.declared.bodies.Progress.{Progress}
use Rattle.http_messages.specs.declared.bodies.Progress.TheVariants.{More, Whole}
use Rattle.http_messages.specs.declared.bodies.Step.{Step}
use Rattle.http_messages.specs.declared.bodies.Step.TheVariants.{Waits, Took, Ended}

-- Bodies.

-- the extensions of a body, and its trailer fields, have at most as many bytes as a head
abbrev pub limits : Limits
limits = record { max_head_len = most_head_bytes; max_extensions_len = most_head_bytes; max_trailers_len = most_head_bytes }

-- the framing of a kind of body
abbrev pub framing_of : BodyKind → Framing
framing_of (Sized count) = framed.Length count
framing_of Chunked = framed.Chunked

-- the stream begins with a body of this kind, which stands for these bytes, and the rest follows it
pub record IsBody (kind : BodyKind) (stream body rest : List ℕ) : Type 0 where
  pub trailers : List Field
  pub reads : ReadsBody limits (framing_of kind) stream (body_of body trailers) rest
  pub few : length trailers ≤ most_fields
  pub short : length body ≤ most_bytes

-- Reading.

-- what a reader still waits for, and the bytes of the body so far
pub record Reading : Type 0 where
  pub waits : Decoder
  pub body : List ℕ

-- a reader at the beginning of a body of this kind
abbrev pub first_reading : BodyKind → Reading
first_reading kind = record { waits = decoder_for limits (framing_of kind); body = [] }

-- the bytes so far, and those that are announced, are within the limit
abbrev pub IsFit : Decoder → List ℕ → Type 0
IsFit (decoder.Length left) body = length body + left ≤ most_bytes
IsFit (decoder.Chunked chunks longest) body = length body ≤ most_bytes
IsFit decoder.UntilClose body = ⊥

-- the stream begins with what the reader still waits for, and this is then the whole body
pub record Awaits (r : Reading) (stream body rest : List ℕ) : Type 0 where
  pub later : List ℕ
  pub trailers : List Field
  pub whole : body ≡ r.body ++ later
  pub completes : Completes r.waits stream (body_of later trailers) rest
  pub few : length trailers ≤ most_fields
  pub short : length body ≤ most_bytes

-- with the chunks in these bytes the body has more bytes than it may
abbrev pub ExceedsBy : Decoder → List ℕ → List ℕ → Type 0
ExceedsBy (decoder.Length left) body input = ⊥
ExceedsBy (decoder.Chunked chunks longest) body input = most_bytes < length body + length (run chunks input).body
ExceedsBy decoder.UntilClose body input = ⊥

-- the same, of a reader
abbrev pub Exceeds : Reading → List ℕ → Type 0
Exceeds r input = ExceedsBy r.waits r.body input

-- whatever follows these bytes, no body ends
abbrev pub NeverEnds : Reading → List ℕ → Type 0
NeverEnds r input = (more body rest : List ℕ) → ¬ (Awaits r (input ++ more) body rest)

-- after so many bytes the new reader waits for just the remainder of what the old one waited for
pub record Moves (old : Reading) (input : List ℕ) (new : Reading) (count : ℕ) : Type 0 where
  pub within : count ≤ length input
  pub back : (more body rest : List ℕ) → Awaits new (drop count input ++ more) body rest → Awaits old (input ++ more) body rest
  pub forth : (more body rest : List ℕ) → Awaits old (input ++ more) body rest → Awaits new (drop count input ++ more) body rest
  pub exceeds : Exceeds new (drop count input) → Exceeds old input

-- the body ends after so many bytes, and is what the new reader has
pub record Ends (old : Reading) (input : List ℕ) (new : Reading) (count : ℕ) : Type 0 where
  pub within : count ≤ length input
  pub whole : (more : List ℕ) → Awaits old (input ++ more) new.body (drop count input ++ more)

-- no body ends in these bytes. All were used, but for trailer fields that are not whole, and the reader goes on
pub record Goes (old : Reading) (input : List ℕ) (new : Reading) (count : ℕ) : Type 0 where
  pub moves : Moves old input new count
  pub used : (count ≡ length input) ⊎ AwaitsTrailers new.waits (length (drop count input))
  pub unfinished : (body rest : List ℕ) → ¬ (Awaits old input body rest)

-- what a call of a reader found
abbrev pub Reads : Reading → List ℕ → Reading → Progress → Type 0
Reads old input new (More count) = Goes old input new count
Reads old input new (Whole count) = Ends old input new count

-- what one step of a reader found
abbrev pub Steps : Reading → List ℕ → Reading → Step → Type 0
Steps old input new (Waits count) = Goes old input new count
Steps old input new (Took count) = (0 < count) × Moves old input new count
Steps old input new (Ended count) = Ends old input new count
