-- Texts of digits, capitals and dashes, which contain no separator. For the laws of the texts, and for the spelling of
-- a plan.
use Rattle.std.proofs.Common.{◌≡◌, ℕ, ◌+◌, ◌-◌, ◌/◌, ◌%◌, ◌<◌, ◌^◌, Bool, true, ◌||◌, ◌==◌, List, [], ◌∷◌, refl, arith, decimal}
use Rattle.std.specs.List.{list_all}
use Rattle.std.specs.Str.Parse.{AllDigits}
use Rattle.std.proofs.lemmas.Bool.{le-leb, or_left}
use Rattle.std.proofs.lemmas.Fmt.{decimal_is_IsNumeral}
use Rattle.std.proofs.lemmas.Str.Parse.{digit_from_value}
use Rattle.allotment.specs.Limits.{is_capital, is_digit, is_code, first_night, is_night}
use Rattle.allotment.specs.Nights.{year_of, days_before, months, month_and_day, night_text}
use Rattle.allotment.specs.Texts.{kind_letter}
use Rattle.allotment.specs.declared.codes.Kind.{Kind}
use Rattle.allotment.proofs.NightLemmas.{is_civil, night_range}
use Rattle.allotment.proofs.TestLemmas.{and_both, and_make, list_all_weaker}

-- a digit, a capital or a dash
abbrev pub is_plain_byte : ℕ → Bool
is_plain_byte b = is_digit b || is_capital b || b == 45

-- a text of these
abbrev pub is_plain : List ℕ → Bool
is_plain text = list_all is_plain_byte text

-- a digit is plain
digit_plain : (x : ℕ) → x < 10 → is_plain_byte (48 + x) ≡ true
digit_plain x small = grind (arith, or_left, and_make, le-leb)

-- the text of a night is one: four digits, a dash, two digits, a dash, two digits
pub night_plain : (n : ℕ) → is_night n ≡ true → is_plain (night_text n) ≡ true
night_plain n e =
    let range = night_range n e in
    let day : ℕ = n - first_night in
    let c = is_civil day (omega (arith, range.0, range.1)) in
    let place = month_and_day 1 (months (year_of day)) (day - days_before (year_of day)) in
    let z : ℕ = 2000 + year_of day in
    and_make _ _ (digit_plain (z / 100 / 10) (omega arith))
    (and_make _ _ (digit_plain (z / 100 % 10) (omega arith))
    (and_make _ _ (digit_plain (z % 100 / 10) (omega arith))
    (and_make _ _ (digit_plain (z % 100 % 10) (omega arith))
    (and_make _ _ (digit_plain (place.0 / 10) (omega arith))
    (and_make _ _ (digit_plain (place.0 % 10) (omega arith))
    (and_make _ _ (digit_plain (place.1 / 10) (omega arith))
    (and_make _ _ (digit_plain (place.1 % 10) (omega arith)) refl)))))))

-- a byte of a code is plain
code_byte : (a b c : Bool) → (a || b) ≡ true → (b || a || c) ≡ true
code_byte a b c e = grind arith

-- a code is plain
pub code_plain : (t : List ℕ) → is_code t ≡ true → is_plain t ≡ true
code_plain t e =
    list_all_weaker (λ b. is_capital b || is_digit b) is_plain_byte (λ b. code_byte (is_capital b) (is_digit b) (b == 45)) t (and_both _ _ e).1

-- a text of digits is plain
digits_plain : (t : List ℕ) → AllDigits 10 t → is_plain t ≡ true
digits_plain [] e = refl
digits_plain (b ∷ t) e = grind (arith, digit_from_value, and_make, or_left, le-leb, digits_plain t)

-- the text of a number is plain
pub decimal_plain : (n : ℕ) → n < 2 ^ 64 → is_plain (decimal n) ≡ true
decimal_plain n l = digits_plain (decimal n) (decimal_is_IsNumeral n l).0.1

-- the letter of a kind is plain
pub letter_plain : (k : Kind) → is_plain (kind_letter k) ≡ true
letter_plain k = grind arith
