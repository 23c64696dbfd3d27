-- What a step of http1's decoder says of a reader. For BodyReader.new and step.
use Rattle.std.proofs.Common.{◌≡◌, ◌≢◌, ◌∙◌, ap, sym, subst, refl, ℕ, ◌+◌, ◌-◌, ◌<◌, ◌≤◌, ◌↔◌, List, [], ◌++◌, length, take, drop, replicate, take-append-drop, append-nil, append_assoc, arith, length-append}
use Rattle.std.proofs.lemmas.List.{length-take-le, length-map, length-replicate}
use Rattle.httparse.specs.declared.spans.HeaderSpan.{HeaderSpan}
use Rattle.http1.specs.Body.{body_of}
use Rattle.http1.specs.ChunkedDecoder.{run, run_result}
use Rattle.http1.specs.Decoder as http1
use Rattle.http1.specs.Decoder.{Completes, Continues, Runs, Starves, decoder_for}
use Rattle.http1.specs.declared.chunked.ChunkedDecoder.{ChunkedDecoder}
use Rattle.http1.specs.declared.decode.Decoder.{Decoder}
use Rattle.http1.specs.declared.decode.Decoder.TheVariants.{Length, Chunked, UntilClose}
use Rattle.http1.proofs.OneParse.{body_from_completes, body_unique, completes_from_body}
use Rattle.http1.proofs.RunLemmas.{run_after}
use Rattle.commands.specs.Limits.{most_bytes}
use Rattle.http_messages.specs.Heads.{most_fields}
use Rattle.http_messages.specs.declared.framing.BodyKind.{BodyKind}
use Rattle.http_messages.specs.Bodies.{Awaits, Ends, ExceedsBy, Goes, IsBody, IsFit, Moves, Reading, framing_of, limits}

-- a reader of this decoder, with this body so far
abbrev pub reading : Decoder → List ℕ → Reading
reading d body = record { waits = d; body = body }

-- The beginning.

-- a decoder at the beginning of a body waits for just the bodies of its kind
pub begins : (kind : BodyKind) (stream body rest : List ℕ)
    → IsBody kind stream body rest ↔ Awaits (reading (decoder_for limits (framing_of kind)) []) stream body rest
begins kind stream body rest = grind (arith, completes_from_body, body_from_completes)

-- Pieces.

-- a piece of a sized body is no longer than what is left of it
piece_fits : (left len : ℕ) (input piece : List ℕ) (new : Decoder) → Continues (Length left) input new len piece
    → length piece + (left - len) ≡ left
piece_fits left len input piece new on =
    let filler : ℕ = 0 in
    let more : List ℕ = replicate left filler in
    let stream = input ++ more in
    let enough : left ≤ length stream = omega (arith, length-append input more, length-replicate left filler) in
    let whole = on.forth more (body_of (take left stream) []) (drop left stream)
    (length-take-le left stream enough, sym (take-append-drop left stream), refl) in
    let rest : Completes (Length (left - len)) (drop len input ++ more) whole.0 (drop left stream) =
    subst (λ d. Completes d (drop len input ++ more) whole.0 (drop left stream)) on.runs whole.2 in
    omega (arith, rest.0, length-append piece whole.0.bytes, ap (λ b. length b.bytes) whole.1, length-take-le left stream enough)

-- the data of the bytes read, and then those of the bytes after them
data_after : (chunks next : ChunkedDecoder) (input piece : List ℕ) (len : ℕ)
    → run chunks (take len input) ≡ run_result next piece []
    → (run chunks input).body ≡ piece ++ (run next (drop len input)).body
data_after chunks next input piece len ran =
    ap (λ all. (run chunks all).body) (sym (take-append-drop len input))
    ∙ ap (λ r. r.body) (run_after chunks next (take len input) piece (drop len input) ran)

-- what is too large after a piece was too large with it
exceeds_before : (old new : Decoder) (body input piece : List ℕ) (len : ℕ) → Runs old input new len piece
    → ExceedsBy new (body ++ piece) (drop len input) → ExceedsBy old body input
exceeds_before (Length left) new body input piece len runs more = grind arith
exceeds_before (Chunked chunks longest) new body input piece len runs more =
    grind (arith, data_after chunks runs.0 input piece len, length-append body piece, length-append piece)
exceeds_before UntilClose new body input piece len runs more = grind arith

-- after a piece, the reader that has it waits for the remainder
pub moves_on : (old new : Decoder) (body input piece : List ℕ) (len : ℕ) → Continues old input new len piece
    → Moves (reading old body) input (reading new (body ++ piece)) len
moves_on old new body input piece len on = grind (arith, append_assoc, exceeds_before)

-- a fit body is within the limit
pub is_short : (d : Decoder) (body : List ℕ) → IsFit d body → length body ≤ most_bytes
is_short d body fit = grind arith

-- a piece that is too large comes in chunks
pub too_large : (old new : Decoder) (body input piece : List ℕ) (len : ℕ) → IsFit old body → Continues old input new len piece
    → most_bytes < length body + length piece → ExceedsBy old body input
too_large (Length left) new body input piece len fit on past = search (arith, piece_fits)
too_large (Chunked chunks longest) new body input piece len fit on past =
    let held = ap length (data_after chunks on.runs.0 input piece len on.runs.2) in
    omega (arith, past, held, length-append piece (run on.runs.0 (drop len input)).body)
too_large UntilClose new body input piece len fit on past = absurd fit

-- no request runs to the end of its connection
not_until_close : (d : Decoder) (body : List ℕ) → IsFit d body → d ≢ UntilClose
not_until_close d body fit is = subst (λ e. IsFit e body) is fit

-- Steps.

-- no piece came
pub goes : (old new : Decoder) (body input : List ℕ) (len : ℕ) → IsFit old body → Starves old input new len
    → Goes (reading old body) input (reading new body) len
goes old new body input len fit starves = record {
  moves = subst (λ b. Moves (reading old body) input (reading new b) len) (append-nil body) (moves_on old new body input [] len starves.continues);
  used = starves.drained;
  unfinished = λ whole rest waits. starves.unfinished (not_until_close old body fit) (body_of waits.later waits.trailers) rest waits.completes;
}

-- the body ends
pub ends : (old new : Decoder) (body input : List ℕ) (spans : List HeaderSpan) (len count : ℕ) → IsFit old body
    → length spans ≡ most_fields → http1.Ends old input spans len count
    → Ends (reading old body) input (reading new body) len
ends old new body input spans len count fit room end = grind (arith, append-nil, length-take-le, length-map, is_short)

-- A stream begins with one body.

pub one_body : (kind : BodyKind) (stream a b x y : List ℕ) → IsBody kind stream a x → IsBody kind stream b y → (a ≡ b) × (x ≡ y)
one_body kind stream a b x y one other = grind (arith, body_unique)
