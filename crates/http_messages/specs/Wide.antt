-- The messages of a stream of HTTP as libraries, proxies and pools write it (RFC 9112, sections 2, 3, 6 and 7).
use Rattle.std.specs.Prelude.{◌≡◌, ℕ, ◌<◌, ◌==◌, ◌||◌, not, Bool, true, false, List, [], ◌∷◌, ◌++◌, length, take, if◌then◌else◌, Result, Ok, Err, Some}
use Rattle.httparse.specs.Grammar.{RequestHead, is_token_byte}
use Rattle.http1.specs.ChunkedDecoder.{run, start}
use Rattle.http1.specs.Fields.{known_fields}
use Rattle.commands.specs.Limits.{most_bytes}
use Rattle.http_messages.specs.Heads.{IsHead, IsNoHead, Parts, most_head_bytes, parts_of}
use Rattle.http_messages.specs.Messages.{first_told, is_newline}
use Rattle.http_messages.specs.Framing.{head_kind}
use Rattle.http_messages.specs.Bodies.{IsBody}
use Rattle.http_messages.specs.declared.framing.BodyKind.{BodyKind}
use Rattle.http_messages.specs.declared.framing.BodyKind.TheVariants.{Chunked}
use Rattle.http_messages.specs.declared.framing.Unframed.{Unframed}

-- Messages. Only after a request that does not ask to close is there another one.
pub data Wide : Type 0 where
  -- a byte that begins no method: the connection is ended at once
  NoMethod : Wide
  -- a prefix that is no head within the limits
  NoHead : Wide
  -- a head whose body is not read
  Unread : (head : RequestHead) (why : Unframed) → Wide
  -- a head, and what is the beginning of no body in chunks: too many bytes, or no chunks
  BadBody : (head : RequestHead) → Wide
  -- a request, by its head, and the bytes that its body stands for
  Asks : (head : RequestHead) (body : List ℕ) → Wide

-- Heads.

-- the first byte that is no line end begins no method
abbrev pub begins_no_method : List ℕ → Bool
begins_no_method [] = false
begins_no_method (byte ∷ later) = if is_newline byte then begins_no_method later else not (is_token_byte byte)

-- the stream begins with no method, as far as a head may reach
abbrev pub has_no_method : List ℕ → Bool
has_no_method stream = begins_no_method (take most_head_bytes stream)

-- the stream begins with a method, and this is its first decided prefix
pub record BeginsWithFront (stream front rest : List ℕ) : Type 0 where
  pub method : has_no_method stream ≡ false
  pub first : first_told stream ≡ Some front
  pub whole : stream ≡ front ++ rest

-- the stream begins with this head, whose body is framed so
pub record BeginsWithHead (stream : List ℕ) (h : RequestHead) (kind : Result BodyKind Unframed) (rest : List ℕ) : Type 0 where
  pub front : List ℕ
  pub begins : BeginsWithFront stream front rest
  pub is_head : IsHead front h
  pub framed : head_kind (parts_of h) ≡ kind

-- Bodies.

-- the chunks so far have more bytes than a body may have
abbrev pub IsLarge : List ℕ → Type 0
IsLarge stream = most_bytes < length (run (start most_head_bytes) stream).body

-- whatever follows, no body of this kind begins the stream
abbrev pub HasNoBody : BodyKind → List ℕ → Type 0
HasNoBody kind stream = (more body rest : List ℕ) → ¬ (IsBody kind (stream ++ more) body rest)

-- Streams.

-- the stream begins with this message, and the rest follows it; of all but a request nothing after it counts
abbrev pub BeginsWith : List ℕ → Wide → List ℕ → Type 0
BeginsWith stream NoMethod rest = (has_no_method stream ≡ true) × (rest ≡ [])
BeginsWith stream NoHead rest =
    (front : List ℕ) × (after : List ℕ) × BeginsWithFront stream front after × IsNoHead front × (rest ≡ [])
BeginsWith stream (Unread h why) rest = (after : List ℕ) × BeginsWithHead stream h (Err why) after × (rest ≡ [])
BeginsWith stream (BadBody h) rest =
    (after : List ℕ) × BeginsWithHead stream h (Ok Chunked) after × HasNoBody Chunked after × (rest ≡ [])
BeginsWith stream (Asks h body) rest =
    (kind : BodyKind) × (after : List ℕ) × BeginsWithHead stream h (Ok kind) after × IsBody kind after body rest

-- the connection ends after a head: it is of HTTP/1.0, or some field `Connection` lists `close`
abbrev pub ends_after : Parts → Bool
ends_after parts = parts.minor == 0 || (known_fields parts.fields).close

-- the connection ends after this message
abbrev pub ends_with : Wide → Bool
ends_with NoMethod = true
ends_with NoHead = true
ends_with (Unread h why) = true
ends_with (BadBody h) = true
ends_with (Asks h body) = ends_after (parts_of h)

-- the stream begins with no whole message
abbrev pub HasNone : List ℕ → Type 0
HasNone stream = (m : Wide) (rest : List ℕ) → ¬ (BeginsWith stream m rest)

-- these are the messages of the stream, up to the one after which the connection ends; else one may be cut off after them
abbrev pub WideMessages : List ℕ → List Wide → Type 0
WideMessages stream [] = HasNone stream
WideMessages stream (m ∷ later) =
    (rest : List ℕ) × BeginsWith stream m rest
    × (ends_with m ≡ true → later ≡ []) × (ends_with m ≡ false → WideMessages rest later)
