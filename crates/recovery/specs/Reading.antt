-- The input that is still unread or unanswered, and what a line keeps of it.
use Rattle.std.specs.Prelude.{◌≡◌, ⊤, ℕ, ◌==◌, Bool, true, false, List, [], ◌∷◌, ◌++◌, length, nat_le, nat_lt, Option, Some, None, option_map}
use Rattle.std.specs.List.{list_any}
use Rattle.allotment.specs.Texts.{line_feed}
use Rattle.recovery.specs.Lines.{lines, longest_line}
use Rattle.recovery.specs.declared.runs.Line.{Line}

-- the bytes that were read and are buffered, and how many more bytes may be read
pub record Unanswered : Type 0 where
  pub waiting : List ℕ
  pub left : ℕ

-- the line keeps the text, where the text is short enough; otherwise it only records that it is too long
abbrev pub KeepsWhere : Bool → Line → List ℕ → Type 0
KeepsWhere true line text = (line.is_long ≡ false) × (line.kept.items ≡ text)
KeepsWhere false line text = line.is_long ≡ true

-- the line keeps this text; or, if the text is too long, only that it is
abbrev pub Keeps : Line → List ℕ → Type 0
Keeps line text = KeepsWhere (nat_le (length text) longest_line) line text

-- the answer is whether the text of the line has a byte
abbrev pub SaysIfAny : Line → Bool → Type 0
SaysIfAny line answer = (text : List ℕ) → Keeps line text → answer ≡ nat_lt 0 (length text)

-- this piece was appended to the text that a line keeps
abbrev pub KeepsMore : Line → Line → List ℕ → Type 0
KeepsMore old new piece = (text : List ℕ) → Keeps old text → Keeps new (text ++ piece)

-- the byte ends a line
abbrev pub is_line_feed : ℕ → Bool
is_line_feed byte = byte == line_feed

-- no byte of the piece is a line feed
abbrev pub HasNoLineFeed : List ℕ → Type 0
HasNoLineFeed piece = list_any is_line_feed piece ≡ false

-- a piece was taken from the buffered bytes: those before a line feed, or all of them if there is none
abbrev pub IsFront : Bool → List ℕ → List ℕ → List ℕ → Type 0
IsFront true waiting piece rest = waiting ≡ piece ++ line_feed ∷ rest
IsFront false waiting piece rest = (waiting ≡ piece) × (rest ≡ [])

-- a piece of a line was taken, and the line keeps it too
pub record TakesPiece (found : Bool) (waiting rest : List ℕ) (old new : Line) : Type 0 where
  pub piece : List ℕ
  pub plain : HasNoLineFeed piece
  pub front : IsFront found waiting piece rest
  pub kept : KeepsMore old new piece

-- the rest of the input: the buffered bytes, and those that the reader has left
abbrev pub to_come : Unanswered → Option (List ℕ) → Option (List ℕ)
to_come unread left = option_map (λ bytes. unread.waiting ++ bytes) left

-- the first line was taken from the input, or the input has no line
abbrev pub LineOf : Bool → List ℕ → List ℕ → Line → Type 0
LineOf true input rest line = (text : List ℕ) × Keeps line text × (lines input ≡ text ∷ lines rest)
LineOf false input rest line = lines input ≡ []

-- the same, where the rest of the input is known
abbrev pub TakesLine : Option (List ℕ) → Option (List ℕ) → Bool → Line → Type 0
TakesLine None left found line = ⊤
TakesLine (Some input) None found line = ⊥
TakesLine (Some input) (Some rest) found line = LineOf found input rest line
