-- The text of a night names the night, for each night.
use Rattle.std.proofs.Common.{◌≡◌, ℕ, suc, ◌+◌, ◌-◌, ◌*◌, ◌/◌, ◌%◌, ◌<◌, ◌≤◌, Bool, true, false, ◌==◌, List, [], ◌∷◌, length, refl, sym, ap, subst, ◌∙◌, arith, Some, nat_lt, nat_le, bytes_eq, if◌then◌else◌}
use Rattle.std.specs.List.{list_all}
use Rattle.std.specs.Str.Parse.{digits_value}
use Rattle.std.specs.Char.{digit_value}
use Rattle.std.proofs.lemmas.Bool.{leb-true, ltb-true, ltb-false, eqb-true, eqb-false}
use Rattle.std.proofs.lemmas.Str.{digit_value_digit}
use Rattle.allotment.specs.Limits.{first_night, is_night, last_night}
use Rattle.allotment.specs.Nights.{year_of, days_before, months_if, months, days_of, month_and_day, two_digits, four_digits, text_of, night_text, named_night, is_text_of, night_in}
use Rattle.allotment.specs.Texts.{keep_if}
use Rattle.allotment.proofs.TestLemmas.{and_both, and_make, bytes_eq_self, keep_if_some, keep_if_yes, same_bytes}

-- Months.

-- no month has more than 31 days
abbrev are_short : List ℕ → Bool
are_short ms = list_all (λ days. nat_le days 31) ms

-- the month and the day of so many days over: the months before it and its days before that day are these days
pub record IsPlace (first : ℕ) (ms : List ℕ) (over : ℕ) (place : ℕ × ℕ) : Type 0 where
  pub from : first ≤ place.0
  pub to : place.0 < first + length ms
  pub day : 1 ≤ place.1
  pub short : place.1 ≤ 31
  pub sums : days_of (place.0 - first) ms + place.1 ≡ over + 1
  pub before_next : over < days_of (suc (place.0 - first)) ms

-- the place is in the first month if fewer days are left than the month has
place_here : (first days : ℕ) (ms : List ℕ) (over : ℕ) → over < days → days ≤ 31
    → IsPlace first (days ∷ ms) over (first, over + 1)
place_here first days ms over within short = grind arith

-- else the place is that of the remaining days in the later months
place_later : (first days : ℕ) (ms : List ℕ) (over : ℕ) (place : ℕ × ℕ) → days ≤ over
    → IsPlace (first + 1) ms (over - days) place → IsPlace first (days ∷ ms) over place
place_later first days ms over place past later = grind arith

-- the place by the answer of the test
place_by : (first days : ℕ) (ms : List ℕ) (over : ℕ) (b : Bool) → nat_lt over days ≡ b → days ≤ 31
    → (days ≤ over → IsPlace (first + 1) ms (over - days) (month_and_day (first + 1) ms (over - days)))
    → IsPlace first (days ∷ ms) over (if b then (first, over + 1) else month_and_day (first + 1) ms (over - days))
place_by first days ms over true e short later = place_here first days ms over (ltb-true over days e) short
place_by first days ms over false e short later = search (arith, ltb-false, place_later)

-- the search through the months finds that place
pub month_place : (first : ℕ) (ms : List ℕ) (over : ℕ) → are_short ms ≡ true → over < days_of (length ms) ms
    → IsPlace first ms over (month_and_day first ms over)
month_place first [] over short within = absurd (omega arith)
month_place first (days ∷ ms) over short within =
    let both = and_both (nat_le days 31) (are_short ms) short in
    place_by first days ms over (nat_lt over days) refl (leb-true days 31 both.0)
    (λ past. month_place (first + 1) ms (over - days) both.1 (omega arith))

-- Years.

-- a year has 365 days, and a leap year one more
year_days : (b : Bool) → (are_short (months_if b) ≡ true) × (days_of 12 (months_if b) ≡ (if b then 366 else 365))
year_days b = grind arith

-- the day stands in one of the hundred years, and in a month of it
pub record IsCivil (day : ℕ) : Type 0 where
  pub year : year_of day ≤ 99
  pub starts : days_before (year_of day) ≤ day
  pub place : IsPlace 1 (months (year_of day)) (day - days_before (year_of day)) (month_and_day 1 (months (year_of day)) (day - days_before (year_of day)))

-- a day comes before the end of its year
year_length : (year day : ℕ) (b : Bool) → (year % 4 == 0) ≡ b → year ≡ 4 * day / 1461
    → day - days_before year < (if b then 366 else 365)
year_length year day b e is = grind (arith, eqb-true, eqb-false)

-- each day of the hundred years has its year, month and day
pub is_civil : (day : ℕ) → day ≤ 36524 → IsCivil day
is_civil day within =
    let y = year_of day in
    let days = year_days (y % 4 == 0) in
    let in_year : day - days_before y < (if y % 4 == 0 then 366 else 365) = year_length y day (y % 4 == 0) refl refl in
    record {
      year = omega arith;
      starts = omega arith;
      place = month_place 1 (months y) (day - days_before y) days.0 (subst (λ z. day - days_before y < z) (sym days.1) in_year);
    }

-- Digits.

-- a digit is read as its value
digit_back : (x : ℕ) → x < 10 → digit_value (48 + x) ≡ x
digit_back x small = let reads = digit_value_digit (48 + x) (omega arith, omega arith) in omega arith

-- two digits are read as the number that was written
two_back : (z : ℕ) → z ≤ 99 → digits_value 10 (two_digits z) ≡ z
two_back z small = grind (arith, digit_back)

-- four digits are read as the number that was written
four_back : (z : ℕ) → z ≤ 9999 → digits_value 10 (four_digits z) ≡ z
four_back z small = grind (arith, digit_back)

-- the night of a year, a month and a day
abbrev night_at : ℕ → ℕ → ℕ → ℕ
night_at year month day =
    first_night + days_before (year - 2000) + days_of (month - 1) (months (year - 2000)) + day - 1

-- a text of digits and dashes names the night of its numbers
named_parts : (y m d : ℕ)
    → named_night (text_of (y, (m, d)))
    ≡ night_at (digits_value 10 (four_digits (2000 + y))) (digits_value 10 (two_digits m)) (digits_value 10 (two_digits d))
named_parts y m d = refl

-- the night of the digits is the night of the numbers that were written
named_date : (y m d : ℕ) → y ≤ 99 → m ≤ 99 → d ≤ 99 → named_night (text_of (y, (m, d))) ≡ night_at (2000 + y) m d
named_date y m d small_year small_month small_day = grind (arith, named_parts, four_back, two_back)

-- the night of the place of a day is that day
night_sum : (y m d day : ℕ) → days_before y ≤ day → IsPlace 1 (months y) (day - days_before y) (m, d)
    → night_at (2000 + y) m d ≡ first_night + day
night_sum y m d day starts place = grind arith

-- a night is from the first to the last
pub night_range : (n : ℕ) → is_night n ≡ true → (first_night ≤ n) × (n ≤ last_night)
night_range n e = grind (arith, and_both, leb-true)

-- the text of a night names that night
pub night_named : (n : ℕ) → is_night n ≡ true → named_night (night_text n) ≡ n
night_named n e =
    let range = night_range n e in
    let day : ℕ = n - first_night in
    let c = is_civil day (omega (arith, range.0, range.1)) in
    let place = month_and_day 1 (months (year_of day)) (day - days_before (year_of day)) in
    named_date (year_of day) place.0 place.1 c.year (omega (arith, c.place.to)) (omega (arith, c.place.short))
    ∙ night_sum (year_of day) place.0 place.1 day c.starts c.place
    ∙ omega (arith, range.0)

-- the text of a night is read as that night
pub night_in-night_text : (n : ℕ) → is_night n ≡ true → night_in (night_text n) ≡ Some n
night_in-night_text n e =
    ap (keep_if (is_text_of (night_text n))) (night_named n e)
    ∙ keep_if_yes (is_text_of (night_text n)) n (and_make (is_night n) (bytes_eq (night_text n) (night_text n)) e (bytes_eq_self (night_text n)))

-- a text that is read as a night is the text of that night
pub night_text-night_in : (text : List ℕ) (n : ℕ) → night_in text ≡ Some n → (is_night n ≡ true) × (night_text n ≡ text)
night_text-night_in text n e =
    let both = and_both (is_night n) (bytes_eq (night_text n) text) (keep_if_some (is_text_of text) (named_night text) n e).1 in
    (both.0, same_bytes (night_text n) text both.1)
