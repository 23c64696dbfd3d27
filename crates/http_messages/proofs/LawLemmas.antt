-- After a head and its body the next message is looked for, whatever the body stands for. For the laws.
use Rattle.std.proofs.Common.{◌≡◌, ◌∙◌, ap, sym, subst, refl, ℕ, ◌+◌, ◌-◌, true, false, List, [], ◌∷◌, ◌++◌, length, take, arith, append-nil, append_assoc, Result, Ok, Some, IsTrue, inl, inr}
use Rattle.std.proofs.Math.Seq.{take-append-add}
use Rattle.std.proofs.lemmas.Bool.{cases_lt}
use Rattle.std.proofs.lemmas.List.{append_cancel_left, take_all, take-append-le}
use Rattle.std.proofs.lemmas.List.Elements.{recursion_from_All}
use Rattle.httparse.specs.Grammar.{IsToken, LineEnd, RequestHead, crlf, is_token_byte, lf, print_blank, print_request}
use Rattle.httparse.proofs.GrammarLemmas.{print_request-append, request_unique}
use Rattle.http_messages.specs.Heads.{IsHead, most_head_bytes, parts_of}
use Rattle.http_messages.specs.Messages.{first_told}
use Rattle.http_messages.proofs.ToldLemmas.{head_is_told, quiet_byte, quiet_of}
use Rattle.http_messages.specs.declared.framing.BodyKind.{BodyKind}
use Rattle.http_messages.specs.declared.framing.BodyKind.TheVariants.{Sized, Chunked}
use Rattle.http_messages.specs.declared.framing.Unframed.{Unframed}
use Rattle.http_messages.specs.Framing.{head_kind}
use Rattle.http_messages.specs.Bodies.{IsBody}
use Rattle.http_messages.specs.Wide.{Asks, BeginsWith, begins_no_method, has_no_method}
use Rattle.http_messages.proofs.BodyLemmas.{one_body}

-- a token has no line end
begins_a_method : (b : ℕ) (later : List ℕ) → is_token_byte b ≡ true → begins_no_method (b ∷ later) ≡ false
begins_a_method b later token =
    let quiet = quiet_byte b (quiet_of is_token_byte (unfold is_token_byte in refl) (unfold is_token_byte in refl) b token) in cc

-- after empty lines a method begins
after_blank : (ends : List LineEnd) (method later : List ℕ) → IsToken method → begins_no_method (print_blank ends ++ (method ++ later)) ≡ false
after_blank [] [] later token = absurd (omega (arith, token.0))
after_blank [] (b ∷ method) later token =
    begins_a_method b (method ++ later) (recursion_from_All (λ c. IsTrue (is_token_byte c)) (b ∷ method) token.1).0
after_blank (crlf ∷ ends) method later token = after_blank ends method later token
after_blank (lf ∷ ends) method later token = after_blank ends method later token

-- so it does in a head
method_first : (front more : List ℕ) (h : RequestHead) → IsHead front h → begins_no_method (front ++ more) ≡ false
method_first front more h is =
    let all : front ++ more ≡ print_request h ++ more = ap (λ f. f ++ more) (is.reads.1 ∙ append-nil (print_request h)) in
    ap begins_no_method (all ∙ print_request-append h more) ∙ after_blank h.blank h.method _ is.reads.0.method

-- a body stays the same, whatever follows it
pub body_more : (kind : BodyKind) (text body rest : List ℕ) → IsBody kind text body [] → IsBody kind (text ++ rest) body rest
body_more (Sized count) text body rest is = grind (arith, append-nil)
body_more Chunked text body rest is = grind (arith, append_assoc)

-- of more bytes, those that a head may have are the first ones and some of what follows them
pub reach : (bytes more : List ℕ)
    → take most_head_bytes (bytes ++ more) ≡ take most_head_bytes bytes ++ take (most_head_bytes - length bytes) more
reach bytes more = elim (cases_lt (length bytes) most_head_bytes) [
  | inl few ↦
      let all : most_head_bytes ≡ length bytes + (most_head_bytes - length bytes) = omega (arith, few) in
      ap (λ n. take n (bytes ++ more)) all ∙ take-append-add bytes more (most_head_bytes - length bytes)
      ∙ ap (λ z. z ++ take (most_head_bytes - length bytes) more) (sym (take_all most_head_bytes bytes (omega (arith, few))))
  | inr many ↦ grind (arith, take-append-le most_head_bytes bytes more many, append-nil)
]

-- a head begins with a method
method_here : (front more : List ℕ) (h : RequestHead) → IsHead front h → has_no_method (front ++ more) ≡ false
method_here front more h is = rw (reach front more, take_all most_head_bytes front is.short) (method_first front _ h is)

pub same_front : (stream f g : List ℕ) → first_told stream ≡ Some f → first_told stream ≡ Some g → f ≡ g
same_front stream f g one other = cc

pub same_kind : {kind other : BodyKind} {found : Result BodyKind Unframed} → found ≡ Ok kind → found ≡ Ok other → kind ≡ other
same_kind {kind} {other} {found} one two = cc

module _ (front text body rest : List ℕ) (h : RequestHead) (kind : BodyKind)
    (is : IsHead front h) (framed : head_kind (parts_of h) ≡ Ok kind) (is_body : IsBody kind text body []) where
  abbrev stream : List ℕ
  stream = front ++ (text ++ rest)

  -- the stream begins with this request
  pub begins_with : BeginsWith stream (Asks h body) rest
  begins_with = (
    kind,
    text ++ rest,
    record {
      front = front;
      begins = record { method = method_here front (text ++ rest) h is; first = head_is_told front (text ++ rest) h is; whole = refl };
      is_head = is;
      framed = framed;
    },
    body_more kind text body rest is_body,
  )

  -- and with no other
  pub begins_alone : (k : RequestHead) (other left : List ℕ) → BeginsWith stream (Asks k other) left
      → (k ≡ h) × (other ≡ body) × (left ≡ rest)
  begins_alone k other left begins =
      let its = begins.2 in
      let f : its.front ≡ front = same_front stream its.front front its.begins.first (head_is_told front (text ++ rest) h is) in
      let same : k ≡ h = (request_unique front k h [] [] (subst (λ z. IsHead z k) f its.is_head).reads is.reads).0 in
      let kinds : begins.0 ≡ kind = same_kind (ap (λ z. head_kind (parts_of z)) (sym same) ∙ its.framed) framed in
      let after : begins.1 ≡ text ++ rest = append_cancel_left front _ _ (ap (λ z. z ++ begins.1) (sym f) ∙ sym its.begins.whole) in
      let there : IsBody kind (text ++ rest) other left = rw (kinds, after) at begins.3 in
      let bodies = one_body kind (text ++ rest) other body left rest there (body_more kind text body rest is_body) in
      (same, bodies.0, bodies.1)
