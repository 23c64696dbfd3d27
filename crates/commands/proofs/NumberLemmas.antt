-- Which numbers texts spell. For the reader of numbers.
use Rattle.std.specs.Int.{IsInRange}
use Rattle.std.specs.Str.Parse.{AllDigits, digits_value, ParsesUnsigned}
use Rattle.std.proofs.Common.{◌∙◌, sym, ap, arith, get_or, ◌≡◌, ◌≢◌, ℕ, ◌<◌, ◌≤◌, ◌^◌, ◌⊎◌, true, List, length, decimal, IsTrue, Result, Ok}
use Rattle.std.proofs.lemmas.Bool.Decides.{nat_tests}
use Rattle.std.proofs.lemmas.Fmt.{decimal_digit, decimal_nonempty, decimal_is_IsNumeral, first_decimal, decimal-digits_value, parse-decimal}
use Rattle.std.proofs.lemmas.Str.Parse.{IsNumeralModel, numerals_by_value, tells_digits, parse_plain, digit_at, not_in_digits}
use Rattle.allotment.specs.Limits.{is_between}
use Rattle.commands.specs.Readings.{is_plain_start}

-- digits and their value, as std's lemmas take them
own : IsNumeralModel (AllDigits 10) (digits_value 10)
own = numerals_by_value (AllDigits 10) tells_digits

-- a number that passes is within the limits
pub between_parts : (low high n : ℕ) → IsTrue (is_between low high n) → (low ≤ n) × (n ≤ high)
between_parts low high n within = grind (arith, nat_tests)

-- a number within the limits passes
pub between_from : (low high n : ℕ) → low ≤ n → n ≤ high → IsTrue (is_between low high n)
between_from low high n above below = grind (arith, nat_tests)

-- a digit alone, or digits of which the first is not 0, begin as a number does
digits_start_plain : (ds : List ℕ) → 0 < length ds → 48 ≤ get_or ds 0 0 → get_or ds 0 0 ≤ 57
    → (length ds ≡ 1) ⊎ (48 < get_or ds 0 0) → is_plain_start ds ≡ true
digits_start_plain ds some low high lone = grind (arith, between_from)

-- 0 is written by one digit, and any other number without a leading 0
first_digit : (n : ℕ) → n < 2 ^ 64 → (length (decimal n) ≡ 1) ⊎ (48 < get_or (decimal n) 0 0)
first_digit n small = grind (arith, decimal_digit, first_decimal)

-- the text of a number begins as a number does
pub plain_start_decimal : (n : ℕ) → n < 2 ^ 64 → is_plain_start (decimal n) ≡ true
plain_start_decimal n small = grind (arith, decimal_nonempty, digit_at, decimal_is_IsNumeral, digits_start_plain, first_digit)

-- a text that begins as a number does has no sign and no leading zero
plain_first : (bs : List ℕ) → is_plain_start bs ≡ true
    → (get_or bs 0 0 ≢ 43) × (get_or bs 0 0 ≡ 48 → length bs ≡ 1)
plain_first bs plain = grind (arith, between_parts)

-- a text that begins as a number does and is read as one is the text of that number
pub plain_parsed : (bs : List ℕ) (n : ℕ) → is_plain_start bs ≡ true
    → ParsesUnsigned {E = ℕ} 64 10 bs (Ok n) → bs ≡ decimal n
plain_parsed bs n plain parsed =
    let first = plain_first bs plain in
    let read = parse_plain own {E = ℕ} 64 bs (Ok n) parsed first.0 in
    let whole = read.0 in
    let back : decimal (digits_value 10 bs) ≡ bs =
    decimal-digits_value own bs whole.0 whole.1 first.1 whole.2 in
    sym back ∙ sym (ap decimal read.1)

-- the text of a number within the limits begins as a number does
pub spelled_plain : (low high : ℕ) (text : List ℕ) → high < 2 ^ 64
    → (x : ℕ) → IsTrue (is_between low high x) → text ≡ decimal x → is_plain_start text ≡ true
spelled_plain low high text small x within spelled = grind (arith, between_parts, plain_start_decimal)

-- the text of a number within the limits is read as that number
pub spelled_parsed : {E : Type 0} (low high : ℕ) (text : List ℕ) (r : Result ℕ E) → high < 2 ^ 64
    → ParsesUnsigned 64 10 text r
    → (x : ℕ) → IsTrue (is_between low high x) → text ≡ decimal x → r ≡ Ok x
spelled_parsed low high text r small parsed x within spelled =
    let limits = between_parts low high x within in
    parse-decimal 64 x text r (omega arith) (omega arith) spelled parsed

-- the text of a number contains digits alone
pub decimal_lacks : (byte n : ℕ) → n < 2 ^ 64 → ¬ (IsInRange 48 57 byte)
    → (i : ℕ) → i < length (decimal n) → get_or (decimal n) i 0 ≢ byte
decimal_lacks byte n small other = grind (arith, not_in_digits, own, decimal_is_IsNumeral)
