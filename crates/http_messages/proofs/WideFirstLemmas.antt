-- The message that each answer is. For first_wide_message and go_on_is_due.
use Rattle.std.proofs.Common.{◌≡◌, ◌∙◌, ap, sym, subst, refl, ℕ, ◌+◌, ◌≤◌, inl, inr, true, false, List, [], ◌∷◌, ◌++◌, length, take, drop, replicate, take-append-drop, append-nil, append_assoc, arith, Some, None, Result, Ok, Err, length-append, IsSome, ◌<◌, Bool, ◌||◌, ◌==◌, not}
use Rattle.std.proofs.lemmas.List.{drop-drop, length-drop, length-replicate, length-take-le, take-append-le, take-take}
use Rattle.http1.specs.ChunkedDecoder.{run, run_on, skips, start, step, stops, use_of, yields, Use}
use Rattle.http1.specs.declared.chunked.ChunkedDecoder.{ChunkedDecoder}
use Rattle.commands.specs.Limits.{most_bytes}
use Rattle.http_messages.specs.Heads.{Parts, most_head_bytes}
use Rattle.http_messages.specs.Messages.{first_told, ends_in_empty_line, is_newline}
use Rattle.http_messages.specs.Places.{IsToldAt}
use Rattle.http_messages.specs.Bodies.{Ends, Exceeds, Goes, NeverEnds, Reading, first_reading}
use Rattle.http_messages.specs.Fields.{IsHeadWith}
use Rattle.http_messages.specs.Framing.{IsWithinLimit, asked_kind, denial_of, head_kind}
use Rattle.http_messages.specs.Wide.{Asks, BadBody, BeginsWithFront, BeginsWithHead, HasNoBody, IsLarge, NoHead, NoMethod, Unread, has_no_method, begins_no_method}
use Rattle.http_messages.specs.declared.denials.Denial.{Denial}
use Rattle.http_messages.specs.declared.denials.Denial.TheVariants.{BadHead, TooLarge}
use Rattle.http_messages.specs.declared.framing.BodyKind.{BodyKind}
use Rattle.http_messages.specs.declared.framing.BodyKind.TheVariants.{Chunked, Sized}
use Rattle.http_messages.specs.declared.framing.Unframed.{Unframed}
use Rattle.http_messages.proofs.BodyLemmas.{begins}
use Rattle.http_messages.proofs.WideLemmas.{fronts, head_or_none, kind_same, not_both, not_framed_both}
use Rattle.http_messages.proofs.LawLemmas.{reach, same_kind}
use Rattle.http_messages.specs.WideHeads.{IsDeniedFront}
use Rattle.http_messages.specs.Plain.{SaysPlainly}
use Rattle.http_messages.specs.WideReading.{IsFirstOf, IsOpen, IsWideMessage}
use Rattle.http_messages.specs.declared.wide_messages.WideMessage.TheVariants as taken
use Rattle.http_messages.specs.declared.wide_messages.WideRequest.{WideRequest}
use Rattle.std.specs.List.{list_any}
use Rattle.std.proofs.lemmas.Bool.{cases_lt, and_parts}
use Rattle.http_messages.proofs.HeadLemmas.{first_of_told, told_here}
use Rattle.http_messages.proofs.PlainLemmas.{as_request}
use Rattle.http_messages.proofs.ToldLemmas.{any_left, not_long}

-- a byte that begins no method stays the first one
no_method_more : (bytes more : List ℕ) → begins_no_method bytes ≡ true → begins_no_method (bytes ++ more) ≡ true
no_method_more [] more none = cc
no_method_more (byte ∷ later) more none = grind (arith, no_method_more later more)

-- where some byte is no line end, more bytes change nothing
visible_more : (bytes more : List ℕ) → list_any (λ b. not (is_newline b)) bytes ≡ true
    → begins_no_method (bytes ++ more) ≡ begins_no_method bytes
visible_more [] more some = cc
visible_more (byte ∷ later) more some = grind (arith, visible_more later more)

-- bytes that begin no method begin none with more after them
no_method_stays : (bytes more : List ℕ) → has_no_method bytes ≡ true → has_no_method (bytes ++ more) ≡ true
no_method_stays bytes more none = rw (reach bytes more) (no_method_more (take most_head_bytes bytes) _ none)

-- a decided prefix that is shorter than a head may be has a byte that is no line end
visible_in : (bytes : List ℕ) (end : ℕ) → IsToldAt bytes end → end < most_head_bytes
    → list_any (λ b. not (is_newline b)) (take most_head_bytes bytes) ≡ true
visible_in bytes end at short =
    let front = take end bytes in
    let quiet = not_long (length front) _ refl (omega (arith, length-take-le end bytes at.within, short)) in
    let whole : take most_head_bytes bytes ≡ front ++ drop end (take most_head_bytes bytes) =
    sym (take-append-drop end (take most_head_bytes bytes))
    ∙ ap (λ z. z ++ drop end (take most_head_bytes bytes)) (take-take end most_head_bytes bytes (omega (arith, short))) in
    rw whole (any_left front _ (and_parts _ _ (empty_line (ends_in_empty_line front) (length front == most_head_bytes) quiet at.told)).1)
  where
    empty_line : (a b : Bool) → b ≡ false → (a || b) ≡ true → a ≡ true
    empty_line a b quiet both = grind arith

-- whether a decided prefix begins with a method does not change
method_stays : (bytes more : List ℕ) (end : ℕ) → IsToldAt bytes end → has_no_method bytes ≡ false
    → has_no_method (bytes ++ more) ≡ false
method_stays bytes more end at some = elim (cases_lt end most_head_bytes) [
  | inl short ↦ rw (reach bytes more) (visible_more (take most_head_bytes bytes) _ (visible_in bytes end at short) ∙ some)
  | inr long ↦ ap begins_no_method (take-append-le most_head_bytes bytes more (omega (arith, long, at.within))) ∙ some
]

-- the decided prefix is that of all streams that begin with these bytes
front_stays : (bytes more : List ℕ) (end : ℕ) → IsToldAt bytes end → has_no_method bytes ≡ false
    → BeginsWithFront (bytes ++ more) (take end bytes) (drop end bytes ++ more)
front_stays bytes more end at some = record {
  method = method_stays bytes more end at some;
  first = first_of_told bytes more end at;
  whole = ap (λ z. z ++ more) (sym (take-append-drop end bytes)) ∙ append_assoc (take end bytes) (drop end bytes) more;
}

-- Without a decided prefix.

not_told : (bytes f : List ℕ) → first_told bytes ≡ None → first_told bytes ≡ Some f → ⊥
not_told bytes f none some = let both : IsSome {T = List ℕ} None = subst IsSome (sym some ∙ none) refl in cc

-- there is no message
pub open_without_front : (bytes : List ℕ) → has_no_method bytes ≡ false → first_told bytes ≡ None → IsOpen bytes
open_without_front bytes some none x rest begins = grind (arith, begins, not_both, not_told)

-- Bodies.

-- more bytes of chunks have at least as much data
longer_on : (u : Use) (d : ChunkedDecoder) (byte : ℕ) (later more : List ℕ)
    → length (run (step d byte) later).body ≤ length (run (step d byte) (later ++ more)).body
    → length (run_on u d byte later (run (step d byte) later)).body ≤ length (run_on u d byte (later ++ more) (run (step d byte) (later ++ more))).body
longer_on skips d byte later more longer = longer
longer_on yields d byte later more longer = grind (arith, length-append)
longer_on stops d byte later more longer = omega arith

pub data_longer : (d : ChunkedDecoder) (bytes more : List ℕ) → length (run d bytes).body ≤ length (run d (bytes ++ more)).body
unfolding run
data_longer d [] more = omega arith
data_longer d (byte ∷ later) more = longer_on (use_of d.state) d byte later more (data_longer (step d byte) later more)

-- chunks with too much data are no body
pub large_never : (stream : List ℕ) → IsLarge stream → HasNoBody Chunked stream
large_never stream large more body rest is =
    omega (
      arith,
      large,
      data_longer (start most_head_bytes) stream more,
      ap length ((begins Chunked (stream ++ more) body rest).0 is).whole,
      ap length ((begins Chunked (stream ++ more) body rest).0 is).completes.1,
      ((begins Chunked (stream ++ more) body rest).0 is).short,
    )

-- a sized body ends where enough bytes come
sized_ends : (count : ℕ) (input : List ℕ) → count ≤ most_bytes → NeverEnds (first_reading (Sized count)) input → ⊥
sized_ends count input short never =
    let filler : ℕ = 0 in
    let more : List ℕ = replicate count filler in
    let stream = input ++ more in
    let whole = length-take-le count stream (omega (arith, length-append input more, length-replicate count filler)) in
    never more (take count stream) (drop count stream) (record {
      later = take count stream;
      trailers = [];
      whole = refl;
      completes = (whole, sym (take-append-drop count stream), refl);
      few = omega arith;
      short = omega (arith, whole, short);
    })

-- What is taken.

pub takes_no_method : (bytes : List ℕ) → has_no_method bytes ≡ true → IsFirstOf bytes taken.NoMethod (length bytes)
takes_no_method bytes none = grind (arith, begins, no_method_stays)

module _ {bytes : List ℕ} {end : ℕ} (at : IsToldAt bytes end) (some : has_no_method bytes ≡ false) where
  abbrev front : List ℕ
  front = take end bytes

  abbrev after : List ℕ
  after = drop end bytes

  -- a prefix that is no head
  pub takes_no_head : (why : Denial) → IsDeniedFront front why → IsFirstOf bytes (taken.Denied why) (length bytes)
  takes_no_head why denied = record {
    sent = NoHead;
    is_taken = record { front = front; first = told_here bytes end at; why = denied.why };
    within = omega arith;
    begins = λ more. (front, after ++ more, front_stays bytes more end at some, denied.is_none, refl);
  }

  module _ {parts : Parts} (head : IsHeadWith front parts) where
    begins_head : {kind : Result BodyKind Unframed} → kind ≡ head_kind parts → (more : List ℕ)
        → BeginsWithHead (bytes ++ more) head.0 kind (after ++ more)
    begins_head framed more = record {
      front = front;
      begins = front_stays bytes more end at some;
      is_head = head.1;
      framed = ap head_kind (sym head.2) ∙ sym framed;
    }

    head_here : {kind : Result BodyKind Unframed} → kind ≡ head_kind parts → BeginsWithHead bytes head.0 kind after
    head_here framed = rw (append-nil bytes, append-nil after) at (begins_head framed [])

    -- a head whose body is not read
    pub takes_unread : {reason : Unframed} → Err reason ≡ head_kind parts → IsFirstOf bytes (taken.Denied (denial_of reason)) (length bytes)
    takes_unread {reason} framed = record {
      sent = Unread head.0 reason;
      is_taken = refl;
      within = omega arith;
      begins = λ more. (after ++ more, begins_head framed more, refl);
    }

    -- a head with chunks that are no body
    takes_chunks : (why : Denial) → Ok Chunked ≡ head_kind parts → IsWideMessage bytes (taken.Denied why) (BadBody head.0)
        → HasNoBody Chunked after → IsFirstOf bytes (taken.Denied why) (length bytes)
    takes_chunks why framed is none = record {
      sent = BadBody head.0;
      is_taken = is;
      within = omega arith;
      begins = λ more. (
        after ++ more,
        begins_head framed more,
        λ later body rest is_body. none (more ++ later) body rest (rw append_assoc at is_body),
        refl,
      );
    }

    pub takes_bad : (kind : BodyKind) → Ok kind ≡ head_kind parts → IsWithinLimit kind → NeverEnds (first_reading kind) after
        → IsFirstOf bytes (taken.Denied BadHead) (length bytes)
    takes_bad (Sized count) framed fits never = absurd (sized_ends count after fits never)
    takes_bad Chunked framed fits never = takes_chunks BadHead framed (inl refl)
        (λ more body rest is. never more body rest ((begins Chunked (after ++ more) body rest).0 is))

    pub takes_large : (kind : BodyKind) → Ok kind ≡ head_kind parts → Exceeds (first_reading kind) after
        → IsFirstOf bytes (taken.Denied TooLarge) (length bytes)
    takes_large (Sized count) framed past = absurd past
    takes_large Chunked framed past =
        let large : IsLarge after = omega (arith, past) in
        takes_chunks TooLarge framed (inr (refl, record { after = after; begins = head_here framed; large = large })) (large_never after large)

    -- a request, whole
    pub takes_asks : {kind : BodyKind} → Ok kind ≡ head_kind parts → {r : WideRequest} {new : Reading} {count : ℕ}
        → Ends (first_reading kind) after new count → r.kind ≡ asked_kind parts.method → SaysPlainly r.request parts new.body
        → IsFirstOf bytes (taken.Asks r) (end + count)
    takes_asks {kind} framed {r} {new} {count} ends asked says = record {
      sent = Asks head.0 new.body;
      is_taken = record {
        kind = asked ∙ ap (λ p. asked_kind p.method) head.2;
        request = rw head.2 at (as_request r.request parts new.body (ends.whole []).short says);
      };
      within = omega (arith, ends.within, at.within, length-drop end bytes);
      begins = λ more. (
        kind,
        after ++ more,
        begins_head framed more,
        rw (drop-drop count end bytes) at ((begins kind (after ++ more) new.body _).1 (ends.whole more)),
      );
    }

    -- a body that is not whole
    pub is_open : {kind : BodyKind} → Ok kind ≡ head_kind parts → {new : Reading} {count : ℕ} → Goes (first_reading kind) after new count
        → IsOpen bytes
    is_open framed goes NoMethod rest is = absurd (not_both is.0 some)
    is_open framed goes NoHead rest is = absurd (head_or_none is.2 is.3 (head_here framed))
    is_open framed goes (Unread k why) rest is = absurd (not_framed_both (head_here framed).framed (kind_same (head_here framed) is.1))
    is_open framed goes (BadBody k) rest is = refl
    is_open {kind} framed goes (Asks k body) rest is =
        let here = head_here framed in
        let kinds : is.0 ≡ kind = same_kind (kind_same here is.2) here.framed in
        absurd (goes.unfinished body rest ((begins kind after body rest).0 (rw (kinds, ← (fronts here is.2).1) at is.3)))
