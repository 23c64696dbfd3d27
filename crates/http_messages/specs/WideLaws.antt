-- Laws of all streams.
use Rattle.std.specs.Prelude.{◌≡◌, ℕ, ◌↔◌, false, List, [], ◌∷◌, ◌++◌, Ok}
use Rattle.httparse.specs.Grammar.{RequestHead}
use Rattle.http_messages.specs.Heads.{IsHead, parts_of}
use Rattle.http_messages.specs.Framing.{head_kind}
use Rattle.http_messages.specs.Bodies.{IsBody, Reading}
use Rattle.http_messages.specs.Calls.{Calls, IsAtBeginning}
use Rattle.http_messages.specs.Wide.{Asks, BeginsWith, Wide, WideMessages, ends_after}
use Rattle.http_messages.specs.declared.framing.BodyKind.{BodyKind}

-- a stream begins with one body of a kind, which ends at one place
abbrev pub HasOneBody : Type 0
HasOneBody =
    (kind : BodyKind) (stream a b x y : List ℕ) → IsBody kind stream a x → IsBody kind stream b y → (a ≡ b) × (x ≡ y)

-- However a stream is cut, a reader finds the one body with which it begins, and leaves the same rest.
abbrev pub CutsAgree : Type 0
CutsAgree =
    (kind : BodyKind) (r : Reading) (stream a b x y : List ℕ) → IsAtBeginning kind r → Calls r stream a x
    → IsBody kind stream a x × (Calls r stream b y → (a ≡ b) × (x ≡ y))

-- Take a head, and after it the text of its body, whatever that body stands for. The stream begins with this request, and
-- with no other. The next message is looked for after that text: no byte of it is read as the head of a request.
abbrev pub NoBodyIsAHead : Type 0
NoBodyIsAHead =
    (front text body rest : List ℕ) (h : RequestHead) (kind : BodyKind)
    → IsHead front h → head_kind (parts_of h) ≡ Ok kind → IsBody kind text body []
    → BeginsWith (front ++ (text ++ rest)) (Asks h body) rest
    × ((k : RequestHead) (other left : List ℕ) → BeginsWith (front ++ (text ++ rest)) (Asks k other) left
    → (k ≡ h) × (other ≡ body) × (left ≡ rest))

-- A stream begins with at most one message, which ends at one place.
abbrev pub HasOneFirst : Type 0
HasOneFirst =
    (stream : List ℕ) (m n : Wide) (x y : List ℕ) → BeginsWith stream m x → BeginsWith stream n y → (m ≡ n) × (x ≡ y)

-- The messages of a head with its body, and of what follows it, are that request, and then the messages of what follows.
-- So whatever a body stands for, no byte of it is read as a head.
abbrev pub BodiesArePassed : Type 0
BodiesArePassed =
    (front text body rest : List ℕ) (h : RequestHead) (kind : BodyKind)
    → IsHead front h → head_kind (parts_of h) ≡ Ok kind → IsBody kind text body [] → ends_after (parts_of h) ≡ false
    → (ms : List Wide)
    → WideMessages (front ++ (text ++ rest)) ms ↔ ((later : List Wide) × (ms ≡ Asks h body ∷ later) × WideMessages rest later)
