-- Nights: the days from 2000-01-01 to 2099-12-31, counted from 1970-01-01, and their texts.
use Rattle.std.specs.Prelude.{ℕ, ◌≤◌, zero, suc, ◌+◌, ◌-◌, ◌*◌, ◌/◌, ◌%◌, ◌==◌, ◌&&◌, List, [], ◌∷◌, ◌++◌, take, drop, nat_lt, Bool, bytes_eq, if◌then◌else◌, Option, Some, None}
use Rattle.std.specs.Str.Parse.{digits_value}
use Rattle.allotment.specs.Limits.{first_night, is_night, last_night}

-- the year of a day, both from 0 on at 2000-01-01: in these hundred years each fourth has 366 days, from the first on
abbrev pub year_of : ℕ → ℕ
year_of day = 4 * day / 1461

-- how many days the years before this one have
abbrev pub days_before : ℕ → ℕ
days_before year = 365 * year + (year + 3) / 4

-- how long the months of a year are, by whether it is a leap year
abbrev pub months_if : Bool → List ℕ
months_if is_leap = 31 ∷ (if is_leap then 29 else 28) ∷ 31 ∷ 30 ∷ 31 ∷ 30 ∷ 31 ∷ 31 ∷ 30 ∷ 31 ∷ 30 ∷ 31 ∷ []

-- how long the months of this year are
abbrev pub months : ℕ → List ℕ
months year = months_if (year % 4 == 0)

-- how many days the first so many months have
abbrev pub days_of : ℕ → List ℕ → ℕ
days_of zero ms = 0
days_of (suc n) [] = 0
days_of (suc n) (days ∷ later) = days + days_of n later

-- the month and the day in it, where so many days are over of the months from this one on
abbrev pub month_and_day : ℕ → List ℕ → ℕ → ℕ × ℕ
month_and_day month [] over = (month, over + 1)
month_and_day month (days ∷ later) over =
    if nat_lt over days then (month, over + 1) else month_and_day (month + 1) later (over - days)

-- the year, the month and the day in it, of a day from 2000-01-01 as 0
abbrev pub civil : ℕ → ℕ × (ℕ × ℕ)
civil day = (year_of day, month_and_day 1 (months (year_of day)) (day - days_before (year_of day)))

-- a number below 100 in two digits
abbrev pub two_digits : ℕ → List ℕ
two_digits n = (48 + n / 10) ∷ (48 + n % 10) ∷ []

-- a number below 10,000 in four digits
abbrev pub four_digits : ℕ → List ℕ
four_digits n = two_digits (n / 100) ++ two_digits (n % 100)

-- `YYYY-MM-DD` of a year from 2000, a month and a day
abbrev pub text_of : ℕ × (ℕ × ℕ) → List ℕ
text_of date = four_digits (2000 + date.0) ++ 45 ∷ two_digits date.1.0 ++ 45 ∷ two_digits date.1.1

-- the date of a night: the year from 0 on at 2000, the month, and the day in it
abbrev pub date_of : ℕ → ℕ × (ℕ × ℕ)
date_of night = civil (night - first_night)

-- the text of a night: its date as `YYYY-MM-DD`
abbrev pub night_text : ℕ → List ℕ
night_text night = text_of (date_of night)

-- the night that the digits of a text name, where the text is the text of a night
abbrev pub named_night : List ℕ → ℕ
named_night text =
    first_night + days_before (digits_value 10 (take 4 text) - 2000)
    + days_of (digits_value 10 (take 2 (drop 5 text)) - 1) (months (digits_value 10 (take 4 text) - 2000))
    + digits_value 10 (take 2 (drop 8 text)) - 1

-- the text is the text of this night
abbrev pub is_text_of : List ℕ → ℕ → Bool
is_text_of text night = is_night night && bytes_eq (night_text night) text

-- the night whose text this is
abbrev pub night_in : List ℕ → Option ℕ
night_in text = if is_text_of text (named_night text) then Some (named_night text) else None

-- so many days from this one on are nights
abbrev pub AreNights : ℕ → ℕ → Type 0
AreNights first n = (first_night ≤ first) × (first + n ≤ last_night + 1)
