-- What a format writes for a number or a text that it pads with blanks. For the lines of reports.
use Rattle.std.proofs.Common.{◌≡◌, ◌∙◌, ℕ, ◌^◌, ◌-◌, ◌≤◌, Bool, cond, List, [], ◌∷◌, ◌++◌, true, false, refl, arith, length, zero, suc, replicate, append-nil, ap, lit<, lit≤, leb-true, encode_utf8, ◌==◌, ◌||◌, nat_le, IsTrue, append_assoc, decimal, string_bytes}
use Rattle.std.specs.Fmt.{padded_integral, padded, take_chars, char_count, format_spec, is_char_start}
use Rattle.std.specs.List.{repeat, list_all}
use Rattle.std.proofs.lemmas.Bool.{and_parts}
use Rattle.std.proofs.lemmas.Bool.Decides.{nat_tests}
use Rattle.std.proofs.lemmas.Str.{encode_ascii}
use Rattle.allotment.specs.Limits.{is_between, is_capital, is_code, is_digit, is_word}
use Rattle.allotment.specs.Texts.{kind_word}
use Rattle.allotment.specs.declared.codes.Kind.{Kind}
use Rattle.allotment.specs.declared.codes.Kind.TheVariants.{Flight, Room, Transfer, Cover}
use Rattle.commands.specs.Names.{is_agent, is_agent_byte}
use Rattle.reports.specs.Columns.{left, line, right}

-- a text of one blank, repeated n times
blank_repeated : (n : ℕ) → repeat {A = ℕ} n (32 ∷ []) ≡ replicate {A = ℕ} n 32
blank_repeated zero = refl
blank_repeated (suc n) = ap (λ later. 32 ∷ later) (blank_repeated n)

-- the padding blank, repeated n times
fill_repeated : (n : ℕ) → repeat n (encode_utf8 32) ≡ replicate n 32
fill_repeated n = ap (repeat n) (encode_ascii 32 (lit< tt)) ∙ blank_repeated n

-- a number in a right column, by its digits
pub number_right : (width : ℕ) (digits : List ℕ)
    → padded_integral (format_spec 32 3 0 width (2 ^ 64 - 1)) false [] digits ≡ right width digits
unfolding padded_integral char_count
number_right width digits =
    let room = width - length digits in
    let same : room - 0 - 0 ≡ room = omega arith in
    let none : room - room ≡ 0 = omega arith in
    rw (same, none, fill_repeated room) (simp append-nil)

-- a text in which each byte begins a character has as many characters as bytes
chars_are_bytes : (passes : ℕ → Bool) → ((b : ℕ) → passes b ≡ true → is_char_start b ≡ true)
    → (text : List ℕ) → list_all passes text ≡ true → char_count text ≡ length text
unfolding char_count
chars_are_bytes passes starts [] all = refl
chars_are_bytes passes starts (b ∷ text) all =
    let parts = and_parts (passes b) (list_all passes text) all in
    rw (starts b parts.0, chars_are_bytes passes starts text parts.1) (omega arith)

-- a text with at most n characters is not cut at n
not_cut : (n : ℕ) (text : List ℕ) → length text ≤ n → take_chars n text ≡ text
unfolding take_chars
not_cut n [] short = refl
not_cut n (b ∷ text) short =
    let more : (n == 0) ≡ false = grind (arith, nat_tests) in
    let either : (starts : Bool) → cond starts (cond (n == 0) [] (b ∷ take_chars (n - 1) text)) (b ∷ take_chars n text) ≡ b ∷ text =
    λ starts. elim starts as (λ s. cond s (cond (n == 0) [] (b ∷ take_chars (n - 1) text)) (b ∷ take_chars n text) ≡ b ∷ text) [
      | true ↦ rw more (ap (λ later. b ∷ later) (not_cut (n - 1) text (omega arith)))
      | false ↦ ap (λ later. b ∷ later) (not_cut n text (omega arith))
    ] in
    either (is_char_start b)

-- a text in a left column
text_left : (width : ℕ) (text : List ℕ) → char_count text ≡ length text → length text ≤ 2 ^ 64 - 1
    → padded (format_spec 32 1 0 width (2 ^ 64 - 1)) text
    ≡ left width text
unfolding padded
text_left width text chars short =
    let same : width - length text - 0 ≡ width - length text = omega arith in
    rw (not_cut (2 ^ 64 - 1) text short, chars, same, fill_repeated)

-- a word in which each byte begins a character, in a left column
word_left : (passes : ℕ → Bool) → ((b : ℕ) → passes b ≡ true → is_char_start b ≡ true)
    → (width most : ℕ) (text : List ℕ) → most ≤ 2 ^ 64 - 1 → is_word passes most text ≡ true
    → padded (format_spec 32 1 0 width (2 ^ 64 - 1)) text ≡ left width text
word_left passes starts width most text small word =
    let parts = and_parts (is_between 1 most (length text)) (list_all passes text) word in
    let within = and_parts (nat_le 1 (length text)) (nat_le (length text) most) parts.0 in
    let short : length text ≤ 2 ^ 64 - 1 = omega (arith, nat_tests, leb-true (length text) most within.1) in
    text_left width text (chars_are_bytes passes starts text parts.1) short

-- a byte of an agent begins a character
agent_byte_starts : (b : ℕ) → is_agent_byte b ≡ true → is_char_start b ≡ true
agent_byte_starts b passes = grind (arith, nat_tests)

-- a byte of a code begins a character
code_byte_starts : (b : ℕ) → (is_capital b || is_digit b) ≡ true → is_char_start b ≡ true
code_byte_starts b passes = grind (arith, nat_tests)

-- an agent in a left column
pub agent_left : (width : ℕ) (agent : List ℕ) → IsTrue (is_agent agent)
    → padded (format_spec 32 1 0 width (2 ^ 64 - 1)) agent ≡ left width agent
agent_left width agent good =
    word_left is_agent_byte agent_byte_starts width 16 agent (lit≤ tt) good

-- a supplier or a product in a left column
pub code_left : (width : ℕ) (code : List ℕ) → IsTrue (is_code code)
    → padded (format_spec 32 1 0 width (2 ^ 64 - 1)) code ≡ left width code
code_left width code good =
    word_left (λ byte. is_capital byte || is_digit byte) code_byte_starts width 8 code (lit≤ tt) good

-- the word of a kind in a left column
pub kind_left : (width : ℕ) (kind : Kind)
    → padded (format_spec 32 1 0 width (2 ^ 64 - 1)) (kind_word kind) ≡ left width (kind_word kind)
unfolding char_count
kind_left width Flight = text_left width (kind_word Flight) refl (lit≤ tt)
kind_left width Room = text_left width (kind_word Room) refl (lit≤ tt)
kind_left width Transfer = text_left width (kind_word Transfer) refl (lit≤ tt)
kind_left width Cover = text_left width (kind_word Cover) refl (lit≤ tt)

-- a line of two words, and one of three, as a format writes them
pub two_words : (a b : List ℕ) → a ++ (32 ∷ (b ++ 10 ∷ [])) ≡ line (a ∷ b ∷ [])
two_words a b = simp append_assoc

pub three_words : (a b c : List ℕ) → a ++ (32 ∷ (b ++ (32 ∷ (c ++ 10 ∷ [])))) ≡ line (a ∷ b ∷ c ∷ [])
three_words a b c = simp append_assoc

-- what a format writes of numbers and texts, each of which may be padded
pub ruleset laid_out = (string_bytes, decimal, append_assoc, number_right, agent_left, code_left, kind_left)
