-- What the places of a head's parts in its bytes mean.
use Rattle.std.specs.Prelude.{◌≡◌, ℕ, ◌<◌, true, false, List, [], ◌∷◌, map, length, take, if◌then◌else◌, Option, Some, None}
use Rattle.httparse.specs.declared.spans.HeaderSpan.{HeaderSpan}
use Rattle.httparse.specs.declared.spans.RequestSpans.{RequestSpans}
use Rattle.httparse.specs.Grammar.{ReadsRequest, RequestHead}
use Rattle.httparse.specs.Spans.{RequestExceeds, header_bytes, span_bytes}
use Rattle.http_messages.specs.Heads.{IsHead, IsNoHead, Parts, are_lengths, is_length, length_in, most_fields, parts_of}
use Rattle.http_messages.specs.declared.heads.Found.{Found}
use Rattle.http_messages.specs.declared.heads.Found.TheVariants.{Absent, Once, Again}
use Rattle.http_messages.specs.declared.requests.Length.{Length}
use Rattle.http_messages.specs.declared.requests.Length.TheVariants.{Untold, Bytes, Bad}
use Rattle.http_messages.specs.declared.heads.NotHead.{NotHead}
use Rattle.http_messages.specs.declared.heads.NotHead.TheVariants.{TooManyFields, Other}

-- the parts at the places of a head
abbrev pub parts_at : List ℕ → List HeaderSpan → RequestSpans → Parts
parts_at front fields line = record {
  method = span_bytes front line.method;
  target = span_bytes front line.path;
  minor = line.version;
  fields = map (header_bytes front) (take line.headers fields);
}

-- the prefix is some head, with these parts
abbrev pub IsHeadWith : List ℕ → Parts → Type 0
IsHeadWith front parts = (h : RequestHead) × IsHead front h × (parts ≡ parts_of h)

-- with the values that are left, the values are just those, or this one and those, or more than one
abbrev pub IsFoundBefore : List (List ℕ) → Found → List (List ℕ) → Type 0
IsFoundBefore left Absent values = values ≡ left
IsFoundBefore left (Once value) values = values ≡ value.now ∷ left
IsFoundBefore left Again values = 1 < length values

-- the values are none, or this one, or more than one
abbrev pub IsFound : Found → List (List ℕ) → Type 0
IsFound found values = IsFoundBefore [] found values

-- the length that a text spells, if it spells one
abbrev pub length_of : List ℕ → Option ℕ
length_of text = if is_length text then Some (length_in (text ∷ [])) else None

-- the values give this length
abbrev pub Tells : Length → List (List ℕ) → Type 0
Tells Untold values = values ≡ []
Tells (Bytes n) values =
    (are_lengths values ≡ true) × (length values ≡ 1) × (length_in values ≡ n)
Tells Bad values = are_lengths values ≡ false

-- no head of any number of fields
abbrev pub IsNoHeadAtAll : List ℕ → Type 0
IsNoHeadAtAll front = (h : RequestHead) → ¬ (ReadsRequest front h [])

-- too many fields, or no head of any number
abbrev pub IsSo : List ℕ → NotHead → Type 0
IsSo front TooManyFields = RequestExceeds most_fields front
IsSo front Other = IsNoHeadAtAll front

-- the prefix is no head within the limits, for this reason
pub record IsNoHeadFor (front : List ℕ) (why : NotHead) : Type 0 where
  pub is_none : IsNoHead front
  pub is_so : IsSo front why
