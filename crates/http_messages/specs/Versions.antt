-- The version that the first line of a prefix names (RFC 9112, section 2.3).
use Rattle.std.specs.Prelude.{ℕ, ◌-◌, ◌==◌, ◌&&◌, not, Bool, List, [], length, take, drop, nat_le, bytes_eq, codes, slice_index, Option, Some, None}
use Rattle.std.specs.List.{position}
use Rattle.std.specs.Char.{is_ascii_digit}
use Rattle.http_messages.specs.Messages.{is_newline}

-- a byte that is no line end
abbrev pub is_visible : ℕ → Bool
is_visible byte = not (is_newline byte)

-- the bytes up to this place, or all
abbrev pub up_to : Option ℕ → List ℕ → List ℕ
up_to (Some end) text = take end text
up_to None text = text

-- the bytes up to the first line end
abbrev pub up_to_line_end : List ℕ → List ℕ
up_to_line_end text = up_to (position is_newline text) text

-- the line that begins at this place, if there is one
abbrev pub line_at : Option ℕ → List ℕ → List ℕ
line_at (Some start) text = up_to_line_end (drop start text)
line_at None text = []

-- the first line that is not empty, without its end
abbrev pub first_line : List ℕ → List ℕ
first_line front = line_at (position is_visible front) front

-- a blank and a version: SP "HTTP/" DIGIT "." DIGIT
abbrev pub is_version : List ℕ → Bool
is_version text =
    (length text == 9) && bytes_eq (take 6 text) (codes " HTTP/") && is_ascii_digit (slice_index text 6)
    && (slice_index text 7 == 46) && is_ascii_digit (slice_index text 8)

-- what a line ends with, as long as a blank and a version
abbrev pub end_of : List ℕ → List ℕ
end_of line = drop (length line - 9) line

-- the version is another than those that are read
abbrev pub is_other_version : List ℕ → Bool
is_other_version text = is_version text && not (bytes_eq text (codes " HTTP/1.0")) && not (bytes_eq text (codes " HTTP/1.1"))

-- the first line ends with another version
abbrev pub names_other_version : List ℕ → Bool
names_other_version front = let line = first_line front in nat_le 9 (length line) && is_other_version (end_of line)
