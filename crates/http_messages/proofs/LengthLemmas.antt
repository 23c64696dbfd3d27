-- The number that digits spell, one digit after another. For length_in.
use Rattle.std.proofs.Common.{◌≡◌, ◌∙◌, ap, refl, ℕ, zero, suc, ◌+◌, ◌-◌, ◌*◌, ◌<◌, ◌≤◌, true, false, List, [], ◌∷◌, ◌++◌, length, take, get_or, arith, add-one, ◌==◌, Some}
use Rattle.std.specs.List.{list_all}
use Rattle.std.specs.Char.{digit_value, is_ascii_digit}
use Rattle.std.specs.Str.Parse.{digits_value, digits_value_after}
use Rattle.std.proofs.lemmas.List.{take_more, take_all}
use Rattle.std.proofs.lemmas.List.Folds.{list_all-append}
use Rattle.std.proofs.lemmas.Bool.Decides.{nat_tests}
use Rattle.allotment.specs.Limits.{is_digit}
use Rattle.http_messages.specs.Fields.{length_of}

-- 1 with so many zeros
abbrev pub tens : ℕ → ℕ
tens zero = 1
tens (suc n) = 10 * tens n

-- it is at least 1
tens_some : (n : ℕ) → 1 ≤ tens n
tens_some zero = omega arith
tens_some (suc n) = omega (arith, tens_some n)

-- with more zeros it is more
tens_grow : (i n : ℕ) → i ≤ n → tens i ≤ tens n
tens_grow zero n fewer = tens_some n
tens_grow (suc i) zero fewer = absurd (omega arith)
tens_grow (suc i) (suc n) fewer = omega (arith, tens_grow i n (omega arith))

-- a number of at most eight digits leaves room for one more digit
pub has_room : (i n : ℕ) → i ≤ 8 → n < tens i → 10 * n + 9 < 1000000000
has_room i n few small = omega (arith, tens_grow i 8 few)

-- one more digit makes ten times as much and itself
digits-append : (n : ℕ) (xs : List ℕ) (c : ℕ)
    → digits_value_after 10 n (xs ++ c ∷ []) ≡ digits_value_after 10 n xs * 10 + digit_value c
digits-append n [] c = refl
digits-append n (x ∷ xs) c = digits-append (n * 10 + digit_value x) xs c

-- a digit is worth what it is above `0`
digit_worth : (b : ℕ) → is_ascii_digit b ≡ true → (digit_value b ≡ b - 48) × (b - 48 ≤ 9) × (is_digit b ≡ true)
digit_worth b is = (grind (arith, nat_tests), grind (arith, nat_tests), grind (arith, nat_tests))

-- the first so many bytes are digits, and this is their number
pub record IsNumberTo (text : List ℕ) (i n : ℕ) : Type 0 where
  pub digits : list_all is_digit (take i text) ≡ true
  pub value : digits_value 10 (take i text) ≡ n
  pub small : n < tens i

-- the same with one more digit
pub number_more : (text : List ℕ) (i n next : ℕ)
    → i < length text
    → is_ascii_digit (get_or text i 0) ≡ true
    → next ≡ 10 * n + (get_or text i 0 - 48)
    → IsNumberTo text i n
    → IsNumberTo text (i + 1) next
number_more text i n next inside is made so_far =
    let worth = digit_worth (get_or text i 0) is in
    let more = take_more text i 0 inside in
    record {
      digits = rw more (grind (arith, list_all-append, so_far.digits, worth.2));
      value = rw more (digits-append 0 (take i text) (get_or text i 0) ∙ ap (λ v. v * 10 + digit_value (get_or text i 0)) so_far.value
          ∙ ap (λ v. n * 10 + v) worth.0 ∙ omega arith);
      small = rw add-one (omega (arith, so_far.small, worth.1));
    }

-- a length that is not 0 is above 0
pub some_bytes : (n : ℕ) → false ≡ (n == 0) → 0 < n
some_bytes n full = grind (arith, nat_tests)

-- one to nine digits represent their number
pub number_told : (text : List ℕ) (i n : ℕ)
    → 0 < length text
    → length text ≤ 9
    → length text ≤ i
    → IsNumberTo text i n
    → Some n ≡ length_of text
number_told text i n some few all so_far = grind (arith, take_all, nat_tests)
