-- Codes.
use Rattle.std.proofs.Common.{◌≡◌, ℕ, ◌<◌, Bool, true, false, ◌==◌, ◌||◌, List, length, arith, Some, None, nat_lt}
use Rattle.std.specs.List.{list_all}
use Rattle.std.proofs.lemmas.Bool.{le-leb, eqb-false}
use Rattle.std.proofs.lemmas.Bool.Decides.{nat_tests}
use Rattle.allotment.specs.Limits.{is_capital, is_digit, is_code, longest_code}
use Rattle.allotment.specs.Short.{is_short}
use Rattle.allotment.specs.Texts.{keep_if}
use Rattle.allotment.proofs.TestLemmas.{and_both, and_make, keep_if_no, keep_if_none, keep_if_some, keep_if_yes, fails_too, list_all_weaker}

-- a byte of a code
abbrev pub is_code_byte : ℕ → Bool
is_code_byte byte = is_capital byte || is_digit byte

-- a byte of a code is ASCII
code_byte_ascii : (byte : ℕ) → is_code_byte byte ≡ true → nat_lt byte 128 ≡ true
code_byte_ascii byte e = grind (arith, nat_tests)

-- a code has at most eight bytes, all of ASCII
pub is_short-code : (text : List ℕ) → is_code text ≡ true → is_short longest_code text ≡ true
is_short-code text e = grind (arith, and_both, and_make, list_all_weaker, code_byte_ascii)

-- a text that is not short is no code
pub keep_if-code_none : (text : List ℕ) → keep_if (is_short longest_code) text ≡ None → keep_if is_code text ≡ None
keep_if-code_none text e = grind (arith, keep_if_no, fails_too, is_short-code, keep_if_none)

-- a short text that is not empty, and whose bytes are all a code's, is a code
pub is_code-short : (text : List ℕ) → is_short longest_code text ≡ true → 0 < length text → list_all is_code_byte text ≡ true → is_code text ≡ true
is_code-short text short some good = grind (arith, and_both, and_make, le-leb)

-- what was kept of such a text is the text, which is a code
pub kept_code : (text kept : List ℕ) → Some kept ≡ keep_if (is_short longest_code) text → (length text == 0) ≡ false
    → list_all is_code_byte text ≡ true → (kept ≡ text) × (is_code kept ≡ true)
kept_code text kept e some good = grind (arith, keep_if_some, eqb-false, is_code-short)

-- such a text is what is kept of it as a code
pub keep_if-code : (text kept : List ℕ) → Some kept ≡ keep_if (is_short longest_code) text → (length text == 0) ≡ false
    → list_all is_code_byte text ≡ true → Some kept ≡ keep_if is_code text
keep_if-code text kept e some good = grind (arith, kept_code, keep_if_yes)
