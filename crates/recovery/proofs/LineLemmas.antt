-- Taking one line of the bytes after another. For next_line.
use Rattle.std.proofs.Common.{◌≡◌, ◌∙◌, ap, sym, refl, ◌+◌, ◌≤◌, ◌<◌, List, [], ◌∷◌, ◌++◌, ℕ, Bool, true, false, length, append_assoc, append-nil, arith, take, drop, take-append-drop, lt-ltb, length-take, drop_of_length-le, eqb-true, ◌-◌, Option, Some, None, nat_lt}
use Rattle.std.specs.List.{position}
use Rattle.std.proofs.lemmas.Bool.{cases_lt, or_parts}
use Rattle.std.proofs.lemmas.List.{drop-drop, drop-take, drop_more, get_or-take}
use Rattle.std.proofs.lemmas.List.Folds.{list_any_none}
use Rattle.std.proofs.lemmas.List.Quantifiers.{position-Some}
use Rattle.std.proofs.lemmas.List.Sums.{fails_before_first}
use Rattle.std.specs.Io.KnownBytes.{Consumes, IsAtEnd}
use Rattle.allotment.specs.Texts.{line_feed}
use Rattle.recovery.specs.Lines.{lines}
use Rattle.recovery.specs.Reading.{is_line_feed, HasNoLineFeed, Keeps, KeepsMore, LineOf, TakesLine, TakesPiece, Unanswered, to_come}
use Rattle.saga_core.proofs.ByteLemmas.{consumes_more}
use Rattle.recovery.specs.declared.runs.Line.{Line}

-- two pieces without a line feed have none when joined
pub plain-append : (xs ys : List ℕ) → HasNoLineFeed xs → HasNoLineFeed ys → HasNoLineFeed (xs ++ ys)
plain-append [] ys first second = second
plain-append (x ∷ xs) ys first second = grind (arith, or_parts, plain-append xs ys (or_parts (is_line_feed x) _ first).1 second)

-- a line is the bytes before the first line feed
pub lines-front : (text rest : List ℕ)
    → HasNoLineFeed text
    → lines (text ++ line_feed ∷ rest) ≡ text ∷ lines rest
lines-front [] rest plain = refl
lines-front (x ∷ text) rest plain = grind (arith, or_parts, lines-front text rest)

-- bytes without a line feed are one line
pub lines-last : (x : ℕ) (text : List ℕ)
    → HasNoLineFeed (x ∷ text)
    → lines (x ∷ text) ≡ (x ∷ text) ∷ []
lines-last x [] plain = rw (or_parts (is_line_feed x) _ plain).0 refl
lines-last x (y ∷ text) plain = grind (arith, or_parts, lines-last y text)

-- the bytes before the first line feed contain none, and the bytes after it are the suffix
feed_cut : (xs : List ℕ) (i : ℕ) → position is_line_feed xs ≡ Some i
    → HasNoLineFeed (take i xs) × (xs ≡ take i xs ++ line_feed ∷ drop (i + 1) xs)
feed_cut xs i found =
    let first = position-Some is_line_feed xs i 0 found in
    let there : drop i xs ≡ line_feed ∷ drop (i + 1) xs = drop_more xs i 0 first.0 ∙ ap (λ x. x ∷ drop (i + 1) xs) (eqb-true _ line_feed first.1) in (
      list_any_none is_line_feed (take i xs) (λ k d lt.
          let below : k < i = omega (arith, length-take i xs) in
          rw (get_or-take i xs k d below) ((position-Some is_line_feed xs i d found).2 k below)),
      sym (take-append-drop i xs) ∙ ap (λ rest. take i xs ++ rest) there,
    )

-- where no line feed is found, there is none
no_feed : (xs : List ℕ) → position is_line_feed xs ≡ None → HasNoLineFeed xs
no_feed xs none = grind (arith, cases_lt, lt-ltb, list_any_none, fails_before_first)

-- a part of a list, by its start and its end
window : (xs : List ℕ) (from to : ℕ)
    → from ≤ to
    → take (to - from) (drop from xs) ≡ drop from (take to xs)
window xs from to in_order = sym (drop-take from (to - from) xs) ∙ ap (λ n. drop from (take n xs)) (omega arith)

module _ (chunk : List ℕ) (from to : ℕ) (waiting : List ℕ) (old new : Line) (in_order : from ≤ to)
    (view : drop from (take to chunk) ≡ waiting) where
  -- the bytes that are searched for a line feed
  abbrev pub looked_at : List ℕ
  looked_at = take (to - from) (drop from chunk)

  -- they are the buffered bytes
  looked_same : looked_at ≡ waiting
  looked_same = window chunk from to in_order ∙ view

  -- the prefix before a line feed is a piece
  pub takes_front : (at : ℕ)
      → position is_line_feed looked_at ≡ Some at
      → KeepsMore old new (take at looked_at)
      → TakesPiece true waiting (drop (from + (at + 1)) (take to chunk)) old new
  takes_front at found kept = grind (arith, feed_cut looked_at, window chunk from to, drop-drop (at + 1) from (take to chunk))

  -- without a line feed, all buffered bytes are a piece
  pub takes_all : position is_line_feed looked_at ≡ None → KeepsMore old new looked_at
      → TakesPiece false waiting (drop to (take to chunk)) old new
  takes_all none kept = grind (arith, no_feed, looked_same, drop_of_length-le, length-take)

-- a read replaces the buffered bytes with those that were read
goes_on : (u0 u2 : Unanswered) (r0 r1 : Option (List ℕ)) (piece : List ℕ)
    → u0.waiting ≡ piece
    → Consumes r0 r1 u2.waiting
    → Consumes (to_come u0 r0) (to_come u2 r1) piece
goes_on u0 u2 r0 r1 piece front read = grind arith

-- this text is the start of a line that was taken, and the line keeps it
pub record IsBegun (start now : Option (List ℕ)) (line : Line) : Type 0 where
  pub text : List ℕ
  pub plain : HasNoLineFeed text
  pub kept : Keeps line text
  pub taken : Consumes start now text

-- one more piece, without a line feed
pub begun_more : (start : Option (List ℕ)) (u0 u1 u2 : Unanswered) (r0 r1 : Option (List ℕ))
    (old new : Line)
    → IsBegun start (to_come u0 r0) old
    → TakesPiece false u0.waiting u1.waiting old new
    → Consumes r0 r1 u2.waiting
    → IsBegun start (to_come u2 r1) new
begun_more start u0 u1 u2 r0 r1 old new so_far taken read = grind (arith, plain-append, consumes_more, goes_on)

-- before a line feed, the line is complete
pub line_found : (start : Option (List ℕ)) (u0 u1 : Unanswered) (r : Option (List ℕ))
    (old new : Line)
    → IsBegun start (to_come u0 r) old
    → TakesPiece true u0.waiting u1.waiting old new → TakesLine start (to_come u1 r) true new
line_found start u0 u1 r old new so_far taken = search (arith, append_assoc, lines-front, plain-append)

-- at the end of the input, the text that was taken is the last line, unless it is empty
last_line : (text : List ℕ) (line : Line)
    → HasNoLineFeed text
    → Keeps line text
    → LineOf (nat_lt 0 (length text)) text [] line
last_line [] line plain kept = refl
last_line (x ∷ text) line plain kept = grind (arith, lt-ltb, lines-last)

-- the same, with what is known of the reader
pub line_ended : (start now : Option (List ℕ)) (line : Line) (found : Bool)
    (so_far : IsBegun start now line)
    → IsAtEnd now
    → found ≡ nat_lt 0 (length so_far.text) → TakesLine start now found line
line_ended start now line found so_far end is = grind (arith, append-nil, last_line)

-- no input is left where nothing is buffered and the reader is at its end
pub at_end : (u : Unanswered) (left : Option (List ℕ))
    → u.waiting ≡ []
    → IsAtEnd left
    → IsAtEnd (to_come u left)
at_end u left nothing end = grind arith
