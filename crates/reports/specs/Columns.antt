-- Columns of a width, and lines of them. A text that is longer than its column is not cut.
use Rattle.std.specs.Prelude.{◌≡◌, ℕ, ◌+◌, ◌-◌, ◌≤◌, List, [], ◌∷◌, ◌++◌, length, replicate}
use Rattle.allotment.specs.Texts.{blank, line_feed}
use Rattle.commands.specs.Texts.{sentence}

-- the blanks that pad a text to a column of this width
abbrev pub blanks : ℕ → List ℕ → List ℕ
blanks width text = replicate (width - length text) blank

-- a text in a left column: padded with blanks at the right
abbrev pub left : ℕ → List ℕ → List ℕ
left width text = text ++ blanks width text

-- a text in a right column: padded with blanks at the left
abbrev pub right : ℕ → List ℕ → List ℕ
right width text = blanks width text ++ text

-- a line: its words with one blank between each two, followed by a line feed
abbrev pub line : List (List ℕ) → List ℕ
line words = sentence words ++ line_feed ∷ []

-- Columns that are written over the blanks of a line, from its left to its right.

-- a text was written from this place on, where the blanks of the line began
abbrev pub PutsText : List ℕ → List ℕ → ℕ → List ℕ → Type 0
PutsText old new at text =
    (width : ℕ) (done : List ℕ) → old ≡ left width done → length done ≡ at → new ≡ left width (done ++ text)

-- digits were written up to this place: they are a right column from where the blanks of the line began
abbrev pub PutsDigits : List ℕ → List ℕ → ℕ → List ℕ → Type 0
PutsDigits old new end digits =
    (width : ℕ) (done : List ℕ) → old ≡ left width done → length done + length digits ≤ end → end ≤ width
    → new ≡ left width (done ++ right (end - length done) digits)
