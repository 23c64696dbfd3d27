-- The text of the message that was read first. For first_wide.
use Rattle.std.proofs.Common.{◌≡◌, ◌∙◌, ap, sym, subst, refl, inl, inr, ℕ, ◌≤◌, List, [], ◌++◌, length, take, drop, arith, append-nil, append_assoc, take-append-drop}
use Rattle.std.proofs.lemmas.List.{append_cancel_right, take_all}
use Rattle.httparse.specs.Grammar.{RequestHead, print_section}
use Rattle.http1.specs.ChunkedBody.{print_chunks}
use Rattle.http_messages.specs.Messages as sent
use Rattle.http_messages.specs.Reading as plain
use Rattle.http_messages.specs.Requests.{IsRequest}
use Rattle.http_messages.specs.declared.requests.Message.{Message}
use Rattle.http_messages.specs.declared.requests.Message.TheVariants as message
use Rattle.http_messages.specs.Bodies.{IsBody}
use Rattle.http_messages.specs.Framing.{asked_kind}
use Rattle.http_messages.specs.Wide as wide
use Rattle.http_messages.specs.Wide.{BeginsWith, Wide}
use Rattle.http_messages.specs.declared.denials.Denial.{Denial}
use Rattle.http_messages.specs.declared.denials.Denial.TheVariants.{TooLarge}
use Rattle.http_messages.specs.declared.framing.BodyKind.{BodyKind}
use Rattle.http_messages.specs.declared.framing.BodyKind.TheVariants.{Sized, Chunked}
use Rattle.http_messages.proofs.LawLemmas.{begins_with}
use Rattle.http_messages.specs.WideReading.{IsFirstOf, IsOpen, IsWideMessage, rest_of}
use Rattle.http_messages.specs.declared.wide_messages.WideMessage.TheVariants as taken
use Rattle.http_messages.specs.declared.wide_messages.WideRequest.{WideRequest}
use Rattle.http_conversations.specs.Reading.{IsFirstOfBy}
use Rattle.http_conversations.specs.Modes.{IsSaidWidely, IsWideText, Says, unread}
use Rattle.http_conversations.specs.declared.modes.TheConstants.{MOST_TEXT}
use Rattle.http_conversations.specs.declared.modes.Arrived.{Arrived}
use Rattle.http_conversations.specs.declared.modes.Layout.{Layout}
use Rattle.http_conversations.specs.declared.modes.Layout.TheVariants as layout
use Rattle.http_conversations.specs.declared.modes.Mode.TheVariants as mode
use Rattle.http_conversations.proofs.HeadLemmas.{some_head}

-- the first message of the profile was read
pub reads_plain : (bytes : List ℕ) (m : Message) (count : ℕ) → plain.IsFirstOf bytes m count
    → IsFirstOfBy mode.Strict bytes (record { message = m; layout = layout.Profile }) count
reads_plain bytes m count first = record {
  said = record { meant = first.message; layout = layout.Profile };
  is_read = record { message = first.is_taken; layout = refl };
  within = first.within;
  says = (first.is_message, refl);
}

-- a body is some text, and the rest follows it
split_body : (kind : BodyKind) (stream body rest : List ℕ) → IsBody kind stream body rest
    → (text : List ℕ) × (stream ≡ text ++ rest) × IsBody kind text body []
split_body (Sized count) stream body rest is = (
  body,
  is.reads.1,
  record { trailers = is.trailers; reads = (is.reads.0, sym (append-nil body), is.reads.2); few = is.few; short = is.short },
)
split_body Chunked stream body rest is =
    let chunked = is.reads in
    let ends = chunked.trailers in
    let section = print_section is.trailers ends.last in
    let chunks = print_chunks chunked.chunks in (
      chunks ++ section,
      chunked.reads.1 ∙ ap (λ z. chunks ++ z) ends.reads.1 ∙ sym (append_assoc chunks section rest),
      record {
        trailers = is.trailers;
        reads = record {
          chunks = chunked.chunks;
          after = section;
          reads = (chunked.reads.0, refl);
          decoded = chunked.decoded;
          trailers = record {
            last = ends.last;
            reads = (ends.reads.0, sym (append-nil section));
            strict = ends.strict;
            within_limit = ends.within_limit;
          };
        };
        few = is.few;
        short = is.short;
      },
    )

-- a request is the text of its head and its body, whatever follows them
text_of_request : (bytes : List ℕ) (count : ℕ) (h : RequestHead) (body : List ℕ)
    → BeginsWith (bytes ++ []) (wide.Asks h body) (drop count bytes ++ []) → IsWideText (take count bytes) (wide.Asks h body)
text_of_request bytes count h body begins more =
    let rest = drop count bytes in
    let front = begins.2.front in
    let split = split_body begins.0 begins.1 body (rest ++ []) begins.3 in
    let after : begins.1 ≡ split.0 ++ rest = split.1 ∙ ap (λ z. split.0 ++ z) (append-nil rest) in
    let whole : take count bytes ++ rest ≡ (front ++ split.0) ++ rest =
    take-append-drop count bytes ∙ sym (append-nil bytes) ∙ begins.2.begins.whole ∙ ap (λ z. front ++ z) after
    ∙ sym (append_assoc front split.0 rest) in
    let same : take count bytes ≡ front ++ split.0 = append_cancel_right (take count bytes) (front ++ split.0) rest whole in
    subst (λ z. BeginsWith (z ++ more) (wide.Asks h body) more) (sym same)
    (subst (λ z. BeginsWith z (wide.Asks h body) more) (sym (append_assoc front split.0 more))
    (begins_with front split.0 body more h begins.0 begins.2.is_head begins.2.framed split.2))

-- a request was read
pub reads_request : (bytes : List ℕ) (r : WideRequest) (count : ℕ) → IsFirstOf bytes (taken.Asks r) count
    → IsFirstOfBy mode.Lenient bytes (record { message = message.Asks r.request; layout = layout.Wide r.kind }) count
reads_request bytes r count first = go first.sent first.is_taken first.begins
  where
    go : (w : Wide) → IsWideMessage bytes (taken.Asks r) w
        → ((more : List ℕ) → BeginsWith (bytes ++ more) w (rest_of w (drop count bytes ++ more)))
        → IsFirstOfBy mode.Lenient bytes (record { message = message.Asks r.request; layout = layout.Wide r.kind }) count
    go wide.NoMethod is begins = absurd is
    go wide.NoHead is begins = absurd is
    go (wide.Unread h why) is begins = absurd is
    go (wide.BadBody h) is begins = absurd is
    go (wide.Asks h body) is begins =
        let head = some_head h body (begins []).2.is_head.reads.0.target.1 in
        record {
          said = record { meant = sent.Asks head.0 body; layout = layout.Wide (asked_kind h.method) };
          is_read = record {
            message = subst (λ parts. IsRequest r.request parts body) (sym head.1) is.request;
            layout = ap layout.Wide is.kind;
          };
          within = first.within;
          says = inl (
            wide.Asks h body,
            text_of_request bytes count h body (begins []),
            record { plain = head.0; parts = head.1; meant = refl; layout = refl },
          );
        }

module _ (bytes : List ℕ) (found : Arrived × ℕ) where
  -- all of the bytes are a message that is not read
  unread_by : (l : Layout) → found ≡ (record { message = message.NoHead; layout = l }, length bytes) → Says mode.Lenient bytes (unread l)
      → IsFirstOfBy mode.Lenient bytes found.0 found.1
  unread_by l is says = subst (λ (x : Arrived × ℕ). IsFirstOfBy mode.Lenient bytes x.0 x.1) (sym is) (record {
    said = unread l;
    is_read = record { message = tt; layout = refl };
    within = omega arith;
    says = subst (λ z. Says mode.Lenient z (unread l)) (sym (take_all (length bytes) bytes (omega arith))) says;
  })

  -- a message that is denied
  pub reads_denied : (why : Denial) (count : ℕ) → IsFirstOf bytes (taken.Denied why) count
      → found ≡ (record { message = message.NoHead; layout = layout.Denied why }, length bytes) → IsFirstOfBy mode.Lenient bytes found.0 found.1
  reads_denied why count first is = unread_by (layout.Denied why) is (inl (go first.sent first.is_taken first.begins))
    where
      go : (w : Wide) → IsWideMessage bytes (taken.Denied why) w
          → ((more : List ℕ) → BeginsWith (bytes ++ more) w (rest_of w (drop count bytes ++ more)))
          → IsSaidWidely bytes (unread (layout.Denied why))
      go wide.NoMethod is begins = absurd is
      go wide.NoHead is begins = (wide.NoHead, begins, (why, is, refl))
      go (wide.Unread h reason) is begins = (wide.Unread h reason, begins, (why, is, refl))
      go (wide.BadBody h) is begins = (wide.BadBody h, begins, (why, is, refl))
      go (wide.Asks h body) is begins = absurd is

  -- a byte that begins no method
  pub reads_no_method : (count : ℕ) → IsFirstOf bytes taken.NoMethod count
      → found ≡ (record { message = message.NoHead; layout = layout.Nothing }, length bytes) → IsFirstOfBy mode.Lenient bytes found.0 found.1
  reads_no_method count first is = unread_by layout.Nothing is (inl (go first.sent first.is_taken first.begins))
    where
      go : (w : Wide) → IsWideMessage bytes taken.NoMethod w
          → ((more : List ℕ) → BeginsWith (bytes ++ more) w (rest_of w (drop count bytes ++ more)))
          → IsSaidWidely bytes (unread layout.Nothing)
      go wide.NoMethod is begins = (wide.NoMethod, begins, refl)
      go wide.NoHead is begins = absurd is
      go (wide.Unread h reason) is begins = absurd is
      go (wide.BadBody h) is begins = absurd is
      go (wide.Asks h body) is begins = absurd is

  -- as many bytes as a message may have
  pub reads_too_long : IsOpen bytes → MOST_TEXT ≤ length bytes
      → found ≡ (record { message = message.NoHead; layout = layout.Denied TooLarge }, length bytes) → IsFirstOfBy mode.Lenient bytes found.0 found.1
  reads_too_long none long is = unread_by (layout.Denied TooLarge) is (inr (record { none = none; long = long; denied = refl }))
