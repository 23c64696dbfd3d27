-- How bytes that a peer sent are shown in the log.
use Rattle.std.specs.Prelude.{ℕ, ◌+◌, ◌/◌, ◌%◌, ◌==◌, ◌&&◌, Bool, not, nat_le, List, [], ◌∷◌, ◌++◌, codes, length, take, if◌then◌else◌}
use Rattle.std.specs.List.{flat_map}
use Rattle.allotment.specs.Limits.{is_between}

-- a byte that prints, or a blank
abbrev pub is_printable : ℕ → Bool
is_printable byte = is_between 32 126 byte

-- a byte that is shown as it is: one that prints, but the backslash
abbrev pub is_shown : ℕ → Bool
is_shown byte = is_between 33 126 byte && not (byte == 92)

-- a digit of base 16: 0 to 9, a to f
abbrev pub hex_digit : ℕ → ℕ
hex_digit digit = if nat_le digit 9 then 48 + digit else 87 + digit

-- another byte is shown by its number: a line feed as `\x0a`
abbrev pub shown_byte : ℕ → List ℕ
shown_byte byte =
    if is_shown byte then byte ∷ [] else codes "\\x" ++ hex_digit (byte / 16) ∷ hex_digit (byte % 16) ∷ []

-- each of the bytes, in order
abbrev pub shown_bytes : List ℕ → List ℕ
shown_bytes = flat_map shown_byte

-- of more bytes than so many the first are shown, and then `\..`
abbrev pub shown_within : ℕ → List ℕ → List ℕ
shown_within most bytes =
    if nat_le (length bytes) most then shown_bytes bytes else shown_bytes (take most bytes) ++ codes "\\.."
