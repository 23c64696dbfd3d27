-- The first message of bytes, as it is returned.
use Rattle.std.specs.Prelude.{◌≡◌, ⊤, ℕ, ◌≤◌, ◌⊎◌, Bool, true, false, List, [], ◌++◌, length, drop, nat_lt, Option, Some, None, Result, Ok, Err}
use Rattle.httparse.specs.Grammar.{RequestHead}
use Rattle.http_messages.specs.Heads.{parts_of}
use Rattle.http_messages.specs.Messages.{first_told}
use Rattle.http_messages.specs.Requests.{IsRequest}
use Rattle.http_messages.specs.Framing.{asked_kind, denial_of}
use Rattle.http_messages.specs.Wide as wide
use Rattle.http_messages.specs.Wide.{BeginsWith, BeginsWithHead, IsLarge, Wide}
use Rattle.http_messages.specs.declared.denials.Denial.{Denial}
use Rattle.http_messages.specs.declared.denials.Denial.TheVariants.{BadHead, TooLarge}
use Rattle.http_messages.specs.declared.framing.BodyKind.{BodyKind}
use Rattle.http_messages.specs.declared.framing.BodyKind.TheVariants.{Sized, Chunked}
use Rattle.http_messages.specs.declared.framing.Unframed.{Unframed}
use Rattle.http_messages.specs.WideHeads.{IsWhy, asks_to_go_on}
use Rattle.http_messages.specs.Plain.{plain_parts}
use Rattle.http_messages.specs.declared.wide_messages.WideMessage.{WideMessage}
use Rattle.http_messages.specs.declared.wide_messages.WideMessage.TheVariants as taken
use Rattle.http_messages.specs.declared.wide_messages.WideRequest.{WideRequest}

-- the request is what this head asks with this body, as the profile would say it
pub record IsWideRequest (r : WideRequest) (h : RequestHead) (body : List ℕ) : Type 0 where
  pub kind : r.kind ≡ asked_kind h.method
  pub request : IsRequest r.request (plain_parts (parts_of h) body) body

-- the bytes begin with no head, for this reason
pub record IsDeniedHead (bytes : List ℕ) (denial : Denial) : Type 0 where
  pub front : List ℕ
  pub first : first_told bytes ≡ Some front
  pub why : IsWhy front denial

-- the chunks after this head have too many bytes
pub record IsLargeAfter (bytes : List ℕ) (h : RequestHead) : Type 0 where
  pub after : List ℕ
  pub begins : BeginsWithHead bytes h (Ok Chunked) after
  pub large : IsLarge after

-- this was taken from that message of the bytes
abbrev pub IsWideMessage : List ℕ → WideMessage → Wide → Type 0
IsWideMessage bytes taken.NoMethod wide.NoMethod = ⊤
IsWideMessage bytes (taken.Denied why) wide.NoHead = IsDeniedHead bytes why
IsWideMessage bytes (taken.Denied why) (wide.Unread h reason) = why ≡ denial_of reason
IsWideMessage bytes (taken.Denied why) (wide.BadBody h) = (why ≡ BadHead) ⊎ ((why ≡ TooLarge) × IsLargeAfter bytes h)
IsWideMessage bytes (taken.Asks r) (wide.Asks h body) = IsWideRequest r h body
IsWideMessage bytes _ _ = ⊥

-- what counts after a message: nothing after one that is no request
abbrev pub rest_of : Wide → List ℕ → List ℕ
rest_of wide.NoMethod rest = []
rest_of wide.NoHead rest = []
rest_of (wide.Unread h why) rest = []
rest_of (wide.BadBody h) rest = []
rest_of (wide.Asks h body) rest = rest

-- the first so many of these bytes are a message, whatever follows them, and it was taken
pub record IsFirstOf (bytes : List ℕ) (message : WideMessage) (count : ℕ) : Type 0 where
  pub sent : Wide
  pub is_taken : IsWideMessage bytes message sent
  pub within : count ≤ length bytes
  pub begins : (more : List ℕ) → BeginsWith (bytes ++ more) sent (rest_of sent (drop count bytes ++ more))

-- chunks with which no body begins
abbrev pub is_bad_body : Wide → Bool
is_bad_body wide.NoMethod = false
is_bad_body wide.NoHead = false
is_bad_body (wide.Unread h why) = false
is_bad_body (wide.BadBody h) = true
is_bad_body (wide.Asks h body) = false

-- The bytes begin with no whole message, and with nothing that is denied, but for chunks: those that can be no body any
-- more may be denied only once more of them came.
abbrev pub IsOpen : List ℕ → Type 0
IsOpen bytes = (m : Wide) (rest : List ℕ) → BeginsWith bytes m rest → is_bad_body m ≡ true

-- the first message of these bytes was taken, or none of them is whole
abbrev pub IsFirstWide : List ℕ → Option (WideMessage × ℕ) → Type 0
IsFirstWide bytes (Some found) = IsFirstOf bytes found.0 found.1
IsFirstWide bytes None = IsOpen bytes

-- a body is framed that is not empty
abbrev pub has_body : Result BodyKind Unframed → Bool
has_body (Ok (Sized count)) = nat_lt 0 count
has_body (Ok Chunked) = true
has_body (Err why) = false

-- 100 Continue is due: a head of HTTP/1.1 asks for it, its body is not empty, and nothing of it came
pub record IsDue (bytes : List ℕ) : Type 0 where
  pub head : RequestHead
  pub kind : Result BodyKind Unframed
  pub begins : BeginsWithHead bytes head kind []
  pub has_body : has_body kind ≡ true
  pub asks : asks_to_go_on (parts_of head) ≡ true
