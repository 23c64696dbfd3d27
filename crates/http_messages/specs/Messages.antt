-- The messages of a stream of bytes: heads with their bodies, and prefixes that are no head.
use Rattle.std.specs.Prelude.{◌≡◌, ℕ, ◌==◌, ◌&&◌, ◌||◌, not, Bool, List, [], ◌∷◌, ◌++◌, map, length, find, nat_eq, Option, Some}
use Rattle.std.specs.List.{list_any, ends_with}
use Rattle.httparse.specs.Grammar.{RequestHead}
use Rattle.http_messages.specs.Heads.{IsHead, body_length, most_head_bytes, parts_of}

-- the prefixes of a stream, the shortest first
abbrev pub fronts : List ℕ → List (List ℕ)
fronts [] = [] ∷ []
fronts (byte ∷ bytes) = [] ∷ map (λ front. byte ∷ front) (fronts bytes)

-- CR or LF
abbrev pub is_newline : ℕ → Bool
is_newline byte = byte == 13 || byte == 10

-- the prefix ends with an empty line, after a byte that is no line end
abbrev pub ends_in_empty_line : List ℕ → Bool
ends_in_empty_line front =
    (ends_with nat_eq front (10 ∷ 10 ∷ []) || ends_with nat_eq front (10 ∷ 13 ∷ 10 ∷ []))
    && list_any (λ byte. not (is_newline byte)) front

-- the prefix is decided: it ends with an empty line, or has as many bytes as a head may have
abbrev pub is_told : List ℕ → Bool
is_told front = ends_in_empty_line front || length front == most_head_bytes

-- the shortest decided prefix
abbrev pub first_told : List ℕ → Option (List ℕ)
first_told stream = find is_told (fronts stream)

-- a message: a prefix that is no head, or a request, by its head and its body
pub data Message : Type 0 where
  NoHead : Message
  Asks : (head : RequestHead) (body : List ℕ) → Message

-- the stream begins with this prefix, which is no head
pub record BeginsWithNoHead (stream rest : List ℕ) : Type 0 where
  pub front : List ℕ
  pub first : first_told stream ≡ Some front
  pub is_none : (h : RequestHead) → ¬ (IsHead front h)
  pub whole : stream ≡ front ++ rest

-- the stream begins with this head, and as many bytes after it as it says
pub record BeginsWithRequest (stream : List ℕ) (h : RequestHead) (body rest : List ℕ) : Type 0 where
  pub front : List ℕ
  pub first : first_told stream ≡ Some front
  pub is_head : IsHead front h
  pub is_long : length body ≡ body_length (parts_of h)
  pub whole : stream ≡ front ++ (body ++ rest)

-- the stream begins with this message, followed by the rest
abbrev pub BeginsWith : List ℕ → Message → List ℕ → Type 0
BeginsWith stream NoHead rest = BeginsWithNoHead stream rest
BeginsWith stream (Asks h body) rest = BeginsWithRequest stream h body rest

-- the stream begins with these messages, one after another
abbrev pub BeginsWithAll : List ℕ → List Message → List ℕ → Type 0
BeginsWithAll stream [] rest = stream ≡ rest
BeginsWithAll stream (m ∷ later) rest =
    (after : List ℕ) × BeginsWith stream m after × BeginsWithAll after later rest

-- the stream begins with no whole message
abbrev pub HasNoMessage : List ℕ → Type 0
HasNoMessage stream = (m : Message) (rest : List ℕ) → ¬ (BeginsWith stream m rest)

-- these are all the messages of the stream: after them, one may be cut off
pub record AreMessages (stream : List ℕ) (ms : List Message) : Type 0 where
  pub rest : List ℕ
  pub whole : BeginsWithAll stream ms rest
  pub no_more : HasNoMessage rest

-- these bytes are this message, whatever follows them
abbrev pub IsMessage : List ℕ → Message → Type 0
IsMessage bytes m = (rest : List ℕ) → BeginsWith (bytes ++ rest) m rest

-- each of these texts is the message at its place
abbrev pub AreEach : List (List ℕ) → List Message → Type 0
AreEach [] ms = ms ≡ []
AreEach (text ∷ texts) [] = ⊥
AreEach (text ∷ texts) (m ∷ ms) = IsMessage text m × AreEach texts ms
