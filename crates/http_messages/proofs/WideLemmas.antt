-- A stream begins with at most one message, and after a request come the messages of what follows it. For the laws.
use Rattle.std.proofs.Common.{◌≡◌, ◌∙◌, ap, sym, subst, refl, ℕ, Bool, true, false, ◌↔◌, List, [], ◌∷◌, ◌++◌, append-nil, Result, Ok, Err, arith}
use Rattle.std.proofs.lemmas.List.{append_cancel_left}
use Rattle.httparse.specs.Grammar.{RequestHead}
use Rattle.httparse.proofs.GrammarLemmas.{request_unique}
use Rattle.http_messages.specs.Heads.{IsHead, IsNoHead, parts_of}
use Rattle.http_messages.specs.declared.framing.BodyKind.{BodyKind}
use Rattle.http_messages.specs.declared.framing.BodyKind.TheVariants.{Chunked}
use Rattle.http_messages.specs.declared.framing.Unframed.{Unframed}
use Rattle.http_messages.specs.Framing.{head_kind}
use Rattle.http_messages.specs.Bodies.{IsBody}
use Rattle.http_messages.specs.Wide.{Asks, BadBody, BeginsWith, BeginsWithFront, BeginsWithHead, HasNoBody, NoHead, NoMethod, Unread, Wide, WideMessages, ends_after}
use Rattle.http_messages.proofs.BodyLemmas.{one_body}
use Rattle.http_messages.proofs.LawLemmas.{begins_with, same_front, same_kind}

-- a test has one answer
pub not_both : {b : Bool} → b ≡ true → b ≡ false → ⊥
not_both {b} set unset = cc

-- a head is framed, or its body is not read
pub not_framed_both : {kind : BodyKind} {why : Unframed} {found : Result BodyKind Unframed} → found ≡ Ok kind → found ≡ Err why → ⊥
not_framed_both {kind} {why} {found} one other = cc

-- the first decided prefix is one, and so is what follows it
pub front_same : (stream f g x y : List ℕ) → BeginsWithFront stream f x → BeginsWithFront stream g y → (f ≡ g) × (x ≡ y)
front_same stream f g x y one other = grind (arith, same_front, append_cancel_left)

module _ {stream : List ℕ} {h k : RequestHead} {x y : List ℕ} {kind other : Result BodyKind Unframed}
    (one : BeginsWithHead stream h kind x) (two : BeginsWithHead stream k other y) where
  pub fronts : (one.front ≡ two.front) × (x ≡ y)
  fronts = front_same stream one.front two.front x y one.begins two.begins

  -- a stream begins with one head
  pub head_same : h ≡ k
  head_same = (request_unique one.front h k [] [] one.is_head.reads (subst (λ f. IsHead f k) (sym fronts.0) two.is_head).reads).0

  pub kind_same : head_kind (parts_of h) ≡ other
  kind_same = ap (λ z. head_kind (parts_of z)) head_same ∙ two.framed

-- a head is no prefix that is no head
pub head_or_none : {stream f x : List ℕ} {h : RequestHead} {kind : Result BodyKind Unframed} {y : List ℕ}
    → BeginsWithFront stream f x → IsNoHead f → BeginsWithHead stream h kind y → ⊥
head_or_none {stream} {f} {x} {h} {kind} {y} at none head = grind (arith, front_same)

-- where no body begins, none does
pub no_body_here : (stream body rest : List ℕ) → HasNoBody Chunked stream → IsBody Chunked stream body rest → ⊥
no_body_here stream body rest none is = none [] body rest (subst (λ s. IsBody Chunked s body rest) (sym (append-nil stream)) is)

-- a request with chunks that no body begins with is none
bad_or_asked : {stream a b body rest : List ℕ} {h k : RequestHead} {kind : BodyKind}
    → BeginsWithHead stream h (Ok Chunked) a → HasNoBody Chunked a → BeginsWithHead stream k (Ok kind) b → IsBody kind b body rest → ⊥
bad_or_asked {stream} {a} {b} {body} {rest} {h} {k} {kind} bad none asks is =
    let after : b ≡ a = sym (fronts bad asks).1 in
    let kinds : kind ≡ Chunked = same_kind (kind_same bad asks) bad.framed in
    no_body_here a body rest none (rw (kinds, after) at is)

-- two requests are one
asked_same : (stream : List ℕ) (h k : RequestHead) (a b x y : List ℕ) → BeginsWith stream (Asks h a) x → BeginsWith stream (Asks k b) y
    → (Asks h a ≡ Asks k b) × (x ≡ y)
asked_same stream h k a b x y one other =
    let kinds : other.0 ≡ one.0 = same_kind (kind_same one.2 other.2) one.2.framed in
    let there : IsBody one.0 one.1 b y = rw (kinds, ← (fronts one.2 other.2).1) at other.3 in
    let bodies = one_body one.0 one.1 a b x y one.3 there in
    (ap (λ z. Asks z a) (head_same one.2 other.2) ∙ ap (λ z. Asks k z) bodies.0, bodies.1)

-- a stream begins with one message
pub one_first : (stream : List ℕ) (m n : Wide) (x y : List ℕ) → BeginsWith stream m x → BeginsWith stream n y → (m ≡ n) × (x ≡ y)
one_first stream NoMethod NoMethod x y one other = (refl, one.1 ∙ sym other.1)
one_first stream NoMethod NoHead x y one other = absurd (not_both one.0 other.2.method)
one_first stream NoMethod (Unread k w) x y one other = absurd (not_both one.0 other.1.begins.method)
one_first stream NoMethod (BadBody k) x y one other = absurd (not_both one.0 other.1.begins.method)
one_first stream NoMethod (Asks k b) x y one other = absurd (not_both one.0 other.2.begins.method)
one_first stream NoHead NoMethod x y one other = absurd (not_both other.0 one.2.method)
one_first stream NoHead NoHead x y one other = (refl, one.4 ∙ sym other.4)
one_first stream NoHead (Unread k w) x y one other = absurd (head_or_none one.2 one.3 other.1)
one_first stream NoHead (BadBody k) x y one other = absurd (head_or_none one.2 one.3 other.1)
one_first stream NoHead (Asks k b) x y one other = absurd (head_or_none one.2 one.3 other.2)
one_first stream (Unread h v) NoMethod x y one other = absurd (not_both other.0 one.1.begins.method)
one_first stream (Unread h v) NoHead x y one other = absurd (head_or_none other.2 other.3 one.1)
one_first stream (Unread h v) (Unread k w) x y one other = grind (arith, head_same one.1 other.1, kind_same one.1 other.1)
one_first stream (Unread h v) (BadBody k) x y one other = absurd (not_framed_both (kind_same one.1 other.1) one.1.framed)
one_first stream (Unread h v) (Asks k b) x y one other = absurd (not_framed_both (kind_same one.1 other.2) one.1.framed)
one_first stream (BadBody h) NoMethod x y one other = absurd (not_both other.0 one.1.begins.method)
one_first stream (BadBody h) NoHead x y one other = absurd (head_or_none other.2 other.3 one.1)
one_first stream (BadBody h) (Unread k w) x y one other = absurd (not_framed_both one.1.framed (kind_same one.1 other.1))
one_first stream (BadBody h) (BadBody k) x y one other = (ap (λ z. BadBody z) (head_same one.1 other.1), one.3 ∙ sym other.3)
one_first stream (BadBody h) (Asks k b) x y one other = absurd (bad_or_asked one.1 one.2 other.2 other.3)
one_first stream (Asks h a) NoMethod x y one other = absurd (not_both other.0 one.2.begins.method)
one_first stream (Asks h a) NoHead x y one other = absurd (head_or_none other.2 other.3 one.2)
one_first stream (Asks h a) (Unread k w) x y one other = absurd (not_framed_both one.2.framed (kind_same one.2 other.1))
one_first stream (Asks h a) (BadBody k) x y one other = absurd (bad_or_asked other.1 other.2 one.2 one.3)
one_first stream (Asks h a) (Asks k b) x y one other = asked_same stream h k a b x y one other

module _ (front text body rest : List ℕ) (h : RequestHead) (kind : BodyKind)
    (is : IsHead front h) (framed : head_kind (parts_of h) ≡ Ok kind) (is_body : IsBody kind text body [])
    (stays : ends_after (parts_of h) ≡ false) where
  abbrev stream : List ℕ
  stream = front ++ (text ++ rest)

  abbrev Later : List Wide → Type 0
  Later ms = (later : List Wide) × (ms ≡ Asks h body ∷ later) × WideMessages rest later

  begins : BeginsWith stream (Asks h body) rest
  begins = begins_with front text body rest h kind is framed is_body

  -- the first message is the request
  forth : (ms : List Wide) → WideMessages stream ms → Later ms
  forth [] none = absurd (none (Asks h body) rest begins)
  forth (m ∷ later) are = grind (arith, one_first stream m (Asks h body) are.0 rest are.1 begins)

  -- and its messages are those of what follows
  back : (ms : List Wide) → Later ms → WideMessages stream ms
  back ms are = rw are.1 (rest, begins, λ ends. absurd (not_both ends stays), λ on. are.2)

  pub passed : (ms : List Wide) → WideMessages stream ms ↔ Later ms
  passed ms = (forth ms, back ms)
