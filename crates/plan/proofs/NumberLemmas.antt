-- Which number from 1 to 255 a text spells. For the reader of numbers, and for an option's nights and count.
use Rattle.std.proofs.Common.{◌≡◌, ◌≢◌, ℕ, ◌<◌, ◌≤◌, ◌^◌, ◌⊎◌, inl, inr, Bool, List, length, refl, sym, ap, ◌∙◌, arith, get_or, Option, Some, None, Ok, Err, bytes_eq, decimal, option_and_then, if◌then◌else◌, Result, MatchResult, OkIff, le-leb, leb-true}
use Rattle.std.specs.List.{slice_get}
use Rattle.std.specs.Str.Parse.{digits_value, AllDigits, ParsesUnsigned}
use Rattle.std.proofs.lemmas.Fmt.{decimal_digit, decimal_is_IsNumeral, decimal_nonempty, first_decimal, decimal-digits_value}
use Rattle.std.proofs.lemmas.Option.{get_or_from_slice_get}
use Rattle.std.proofs.lemmas.Str.Parse.{IsNumeralModel, numerals_by_value, tells_digits, digit_at, parse_plain}
use Rattle.allotment.specs.Limits.{is_between}
use Rattle.allotment.specs.Texts.{keep_if, number_in, number_from}
use Rattle.plan.specs.Drafts.{number_or_none}
use Rattle.allotment.proofs.TestLemmas.{keep_if_yes, bytes_eq_self, keep_if_some, same_bytes, and_make, and_both}

-- the number from 1 to 255 that a text spells, or 0
abbrev pub small_number : List ℕ → ℕ
small_number t = number_or_none (number_from 1 255 t)

-- what a number is spelled as spells it
pub number_again : (n : ℕ) → n < 2 ^ 64 → number_in (decimal n) ≡ Some n
number_again n l =
    ap (keep_if (λ m. bytes_eq (decimal m) (decimal n))) (decimal_is_IsNumeral n l).1
    ∙ keep_if_yes (λ m. bytes_eq (decimal m) (decimal n)) n (bytes_eq_self (decimal n))

-- a number from 1 to 255 is the one that its text spells
pub small_number_spelled : (t : List ℕ) (n : ℕ) → decimal n ≡ t → 1 ≤ n → n ≤ 255 → small_number t ≡ n
small_number_spelled t n e low high = grind (arith, number_again, keep_if_yes, and_make, le-leb)

-- a number that is none of them counts as 0
unspelled_within : (n : ℕ) (b : Bool) → is_between 1 255 n ≡ b → (1 ≤ n → n ≤ 255 → ⊥)
    → number_or_none (if b then Some n else None) ≡ 0
unspelled_within n b e none = grind (arith, and_both, leb-true)

-- a text that spells no number from 1 to 255 counts as 0
unspelled_by : (t : List ℕ) (o : Option ℕ) → number_in t ≡ o
    → ((n : ℕ) → 1 ≤ n → n ≤ 255 → decimal n ≡ t → ⊥)
    → number_or_none (option_and_then (keep_if (is_between 1 255)) o) ≡ 0
unspelled_by t o e none = grind (arith, keep_if_some, unspelled_within, same_bytes)

-- a text that is spelled by none of them spells none of them
pub small_number_none : (t : List ℕ) → ((n : ℕ) → 1 ≤ n → n ≤ 255 → decimal n ≡ t → ⊥) → small_number t ≡ 0
small_number_none t none = unspelled_by t (number_in t) refl none

-- the first byte of a number from 1 on
first_byte : (t : List ℕ) (n : ℕ) → decimal n ≡ t → 1 ≤ n → n ≤ 255 → (49 ≤ get_or t 0 0) × (get_or t 0 0 ≤ 57)
first_byte t n e low high = grind (arith, first_decimal, digit_at, decimal_is_IsNumeral, decimal_nonempty)

-- a text that does not begin with 1 to 9 spells none of them
pub small_number_other : (t : List ℕ) (d : ℕ) → slice_get t 0 ≡ Some d → (d < 49) ⊎ (57 < d) → small_number t ≡ 0
small_number_other t d e out =
    let first = get_or_from_slice_get t 0 d 0 e in
    small_number_none t (λ n low high same.
    let range = first_byte t n same low high in
    elim out [ inl below ↦ absurd (omega (arith, range.0, range.1)) | inr above ↦ absurd (omega (arith, range.0, range.1)) ])

-- digits and their value, in the words of the parser
own : IsNumeralModel (AllDigits 10) (digits_value 10)
own = numerals_by_value (AllDigits 10) tells_digits

-- what the parser gives of a text with no sign is its number, without a leading zero
parsed : {E : Type 0} (t : List ℕ) (r : Result ℕ E) → get_or t 0 0 ≢ 48
    → OkIff r (AllDigits 10 t × (0 < length t) × (digits_value 10 t < 2 ^ 8)) (digits_value 10 t)
    → MatchResult r (λ n. small_number t ≡ n) (λ _. small_number t ≡ 0)
parsed t (Ok n) zero h =
    let spelled : decimal (digits_value 10 t) ≡ t =
    decimal-digits_value own t h.0.0 h.0.1 (λ e. absurd (zero e)) (omega (arith, h.0.2)) in
    let some : digits_value 10 t ≢ 0 =
    λ e. zero (ap (λ z. get_or z 0 0) (sym spelled) ∙ ap (λ z. get_or (decimal z) 0 0) e
    ∙ ap (λ z. get_or z 0 0) (decimal_digit 0 (omega arith))) in
    small_number_spelled t (digits_value 10 t) spelled (omega arith) (omega (arith, h.0.2)) ∙ sym h.1
parsed t (Err e) zero h = grind (arith, small_number_none, decimal_is_IsNumeral, decimal_nonempty)

-- what parsing gives of a text that begins with 1 to 9
pub small_number_parsed : {E : Type 0} (t : List ℕ) (r : Result ℕ E) (d : ℕ)
    → slice_get t 0 ≡ Some d → 49 ≤ d → d ≤ 57 → ParsesUnsigned 8 10 t r
    → MatchResult r (λ n. small_number t ≡ n) (λ _. small_number t ≡ 0)
small_number_parsed t r d e low high h = search (arith, get_or_from_slice_get, parsed, parse_plain, own)
