-- The text of a night is the text of `jiff`'s date with that day number, and what reads as a night is what `jiff` reads.
use Rattle.std.proofs.Common.{◌≡◌, ℕ, zero, suc, ◌+◌, ◌-◌, ◌*◌, ◌/◌, ◌%◌, ◌<◌, ◌≤◌, Bool, true, false, cond, ◌==◌, List, length, get_or, refl, sym, ap, subst, ◌∙◌, arith, ℤ, pos, Option, Some, None, Ok}
use Rattle.std.proofs.lemmas.Slice.Eq.{text_from_reads}
use Rattle.std.proofs.lemmas.Bool.Decides.{nat_tests}
use Rattle.jiff_core.specs.declared.civil.date.Date.{Date}
use Rattle.jiff_core.specs.Date.{epoch_day, IsYmd}
use Rattle.jiff_core.specs.Calendar.{IsDate, is_leap_year, days_in_month, days_of_months, day_count, days_from_civil}
use Rattle.jiff_core.proofs.SignedLemmas.{signed_arith}
use Rattle.jiff_core.proofs.MarchLemmas.{days_of_years-march_days}
use Rattle.jiff_core.proofs.CalendarLemmas.{days_from_civil-day_count, days_in_month_bounds}
use Rattle.jiff_core.proofs.DateLemmas.{epoch_day_injective, epoch_day_same}
use Rattle.jiff_fmt.specs.Text.{date_text}
use Rattle.jiff_fmt.specs.Temporal.{parse_date, date_parts}
use Rattle.jiff_fmt.proofs.RoundTrip.{parse_date-date_text}
use Rattle.allotment.specs.Limits.{first_night, is_night}
use Rattle.allotment.specs.Nights.{year_of, days_before, months_if, months, days_of, month_and_day, night_text, night_in}
use Rattle.allotment.specs.Dates.{IsPair, IsNoDate, IsDateText}
use Rattle.allotment.proofs.NightLemmas.{is_civil, night_range, night_in-night_text, night_text-night_in}

-- the year y from 2000 on, as `jiff` counts
abbrev year_at : ℕ → ℤ
year_at y = pos (2000 + y)

-- in these hundred years each fourth is a leap year
leap_of : (y : ℕ) → y ≤ 99 → is_leap_year (year_at y) ≡ (y % 4 == 0)
leap_of y within = grind (arith, nat_tests)

-- each month is as long as `jiff` says
month_days : (y : ℤ) (b : Bool) (j : ℕ) → j < 12 → is_leap_year y ≡ b
    → days_of (suc j) (months_if b) ≡ days_of j (months_if b) + days_in_month y (suc j)
month_days y b zero l e = refl
month_days y true (suc zero) l e = rw e refl
month_days y false (suc zero) l e = rw e refl
month_days y b (suc (suc zero)) l e = grind arith
month_days y b (suc (suc (suc zero))) l e = grind arith
month_days y b (suc (suc (suc (suc zero)))) l e = grind arith
month_days y b (suc (suc (suc (suc (suc zero))))) l e = grind arith
month_days y b (suc (suc (suc (suc (suc (suc zero)))))) l e = grind arith
month_days y b (suc (suc (suc (suc (suc (suc (suc zero))))))) l e = grind arith
month_days y b (suc (suc (suc (suc (suc (suc (suc (suc zero)))))))) l e = grind arith
month_days y b (suc (suc (suc (suc (suc (suc (suc (suc (suc zero))))))))) l e = grind arith
month_days y b (suc (suc (suc (suc (suc (suc (suc (suc (suc (suc zero)))))))))) l e = grind arith
month_days y b (suc (suc (suc (suc (suc (suc (suc (suc (suc (suc (suc zero))))))))))) l e = grind arith
month_days y b (suc (suc (suc (suc (suc (suc (suc (suc (suc (suc (suc (suc j)))))))))))) l e = absurd (omega arith)

-- so many first months together are as long as `jiff` says
months_days : (y : ℤ) (b : Bool) (j : ℕ) → j ≤ 12 → is_leap_year y ≡ b → days_of_months y j ≡ days_of j (months_if b)
unfolding days_of_months
months_days y b zero l e = refl
months_days y b (suc j) l e = omega (arith, months_days y b j (omega arith) e, month_days y b j (omega arith) e)

-- the leap days before a year: `jiff` counts from a March, and the year's own leap day comes after its start
leap_count : (y : ℕ) → y ≤ 99 → cond (is_leap_year (pos (2000 + y + 10000))) 1 0 + (y + 3) / 4 ≡ y / 4 + 1
leap_count y within = grind (arith, nat_tests)

-- the count of days that `jiff` makes for a date in these years
count_of : (y m d over : ℕ) → y ≤ 99 → 1 ≤ m → m ≤ 12 → 1 ≤ d → days_of (m - 1) (months y) + d ≡ over + 1
    → day_count (year_at y) m d ≡ 4382910 + 365 * y + (y + 3) / 4 + over
unfolding day_count
count_of y m d over within low high first sums =
    grind (arith, days_of_years-march_days, months_days, leap_of, leap_count, signed_arith)

-- a date in these years has the day number that is counted here
night_day : (y m d over n : ℕ) → y ≤ 99 → 1 ≤ m → m ≤ 12 → 1 ≤ d → days_of (m - 1) (months y) + d ≡ over + 1
    → n ≡ first_night + days_before y + over → days_from_civil (year_at y) m d ≡ pos n
night_day y m d over n within low high first sums is =
    omega (arith, signed_arith, days_from_civil-day_count (year_at y) m d, count_of y m d over within low high first sums)

-- the date of a night has its day number and its text
pub record IsDateOf (n : ℕ) (d : Date) : Type 0 where
  pub year : d.year ≡ year_at (year_of (n - first_night))
  pub within : year_of (n - first_night) ≤ 99
  pub day : epoch_day d ≡ pos n
  pub shown : night_text n ≡ date_text d

-- each night has such a date
pub night_date : (n : ℕ) → is_night n ≡ true → (d : Date) × IsDateOf n d
night_date n e =
    let range = night_range n e in
    let low : first_night ≤ n = range.0 in
    let k : ℕ = n - first_night in
    let c = is_civil k (omega (arith, range.1)) in
    let y = year_of k in
    let over = k - days_before y in
    let r = month_and_day 1 (months y) over in
    let m_low : 1 ≤ r.0 = c.place.from in
    let m_high : r.0 ≤ 12 = omega (arith, c.place.to) in
    let next : suc (r.0 - 1) ≡ r.0 = omega arith in
    let is_now : n ≡ first_night + days_before y + over = omega (arith, c.starts) in
    let month = month_days (year_at y) (y % 4 == 0) (r.0 - 1) (omega arith) (leap_of y c.year) in
    let in_month : r.1 ≤ days_in_month (year_at y) (suc (r.0 - 1)) = omega (arith, c.place.sums, c.place.before_next, month) in (
      record {
        year = year_at y;
        month = r.0;
        day = r.1;
        year_in = (omega (arith, signed_arith, c.year), omega (arith, signed_arith, c.year));
        month_in = (m_low, m_high);
        day_in = (c.place.day, subst (λ z. r.1 ≤ days_in_month (year_at y) z) next in_month);
      },
      record { year = refl; within = c.year; day = night_day y r.0 r.1 over n c.year m_low m_high c.place.day c.place.sums is_now; shown = refl },
    )

-- dates of the same year, month and day have the same text
date_text-same : (a b : Date) → a.year ≡ b.year → a.month ≡ b.month → a.day ≡ b.day → date_text a ≡ date_text b
date_text-same a b year month day = cc

-- a date with the day number of a night has the text of that night
pub night_text-date_text : (d : Date) (n : ℕ) → is_night n ≡ true → epoch_day d ≡ pos n → night_text n ≡ date_text d
night_text-date_text d n e is =
    let here = night_date n e in
    let one = epoch_day_injective here.0 d (here.1.day ∙ sym is) in
    here.1.shown ∙ date_text-same here.0 d one.0 one.1 one.2

-- What `jiff` reads, and what is read here.

-- the text of a date that has a night's day number is read as that night
pub night_of_date : (t : List ℕ) (d : Date) (n : ℕ) → date_text d ≡ t → epoch_day d ≡ pos n → is_night n ≡ true
    → night_in t ≡ Some n
night_of_date t d n shown day e =
    ap night_in (sym shown ∙ sym (night_text-date_text d n e day)) ∙ night_in-night_text n e

-- a text that is read as a night is that of a date which `jiff` reads
pub record Comes (t : List ℕ) (n : ℕ) : Type 0 where
  pub date : Date
  pub year : date.year ≡ year_at (year_of (n - first_night))
  pub within : year_of (n - first_night) ≤ 99
  pub night : is_night n ≡ true
  pub day : epoch_day date ≡ pos n
  pub text : t ≡ date_text date
  pub parsed : parse_date t ≡ Ok (date_parts date)

-- each such text is
pub comes_from : (t : List ℕ) (n : ℕ) → night_in t ≡ Some n → Comes t n
comes_from t n e =
    let both = night_text-night_in t n e in
    let d = night_date n both.0 in
    let spelled : t ≡ date_text d.0 = sym both.1 ∙ d.1.shown in
    record {
      date = d.0;
      year = d.1.year;
      within = d.1.within;
      night = both.0;
      day = d.1.day;
      text = spelled;
      parsed = ap parse_date spelled ∙ parse_date-date_text d.0;
    }

-- where a text is not read as any night, it is not read
none_if : (o : Option ℕ) → ((n : ℕ) → o ≡ Some n → ⊥) → o ≡ None
none_if o h = grind arith

-- what it reads is the date that the text is of
pub same_date : (t : List ℕ) (found : Date) (n : ℕ) → Ok (date_parts found) ≡ parse_date t → Comes t n
    → (epoch_day found ≡ pos n) × (date_text found ≡ t)
same_date t found n h c = grind (arith, epoch_day_same, date_text-same)

-- a date that is out of range is not read as a night
pub out_of_range : (t : List ℕ) (found : Date) → Ok (date_parts found) ≡ parse_date t
    → ((n : ℕ) → epoch_day found ≡ pos n → is_night n ≡ true → ⊥) → night_in t ≡ None
out_of_range t found h far =
    none_if (night_in t) (λ n is. let c = comes_from t n is in far n (same_date t found n h c).0 c.night)

-- Texts of numbers in the places of a date.

-- a number written as two pairs of digits is split again into these pairs
hundreds : (c y : ℕ) → y < 100 → ((100 * c + y) / 100 ≡ c) × ((100 * c + y) % 100 ≡ y)
hundreds c y small = (omega arith, omega arith)

-- ten bytes with two dashes, and with digits elsewhere, are the text of the numbers that these digits are
pub date_shown : (t : List ℕ) (c y m d : ℕ) → length t ≡ 10 → get_or t 4 0 ≡ 45 → get_or t 7 0 ≡ 45
    → IsPair (get_or t 0 0) (get_or t 1 0) c → IsPair (get_or t 2 0) (get_or t 3 0) y
    → IsPair (get_or t 5 0) (get_or t 6 0) m → IsPair (get_or t 8 0) (get_or t 9 0) d
    → IsDateText t (100 * c + y) m d
date_shown t c y m d long one two century year month day = grind (arith, hundreds, text_from_reads)

-- the text of a night is a date's text
pub comes_shown : (t : List ℕ) (n : ℕ) → (c : Comes t n)
    → IsDateText t (2000 + year_of (n - first_night)) c.date.month c.date.day
comes_shown t n c = grind (arith, days_in_month_bounds)

-- a text of no numbers is not read as a night
pub no_date : (t : List ℕ) → IsNoDate t → night_in t ≡ None
no_date t none = none_if (night_in t) (λ n is. none _ _ _ (comes_shown t n (comes_from t n is)))

-- two digits represent one number
pair_same : (a b : ℕ) → 48 + a / 10 ≡ 48 + b / 10 → 48 + a % 10 ≡ 48 + b % 10 → a ≡ b
pair_same a b tens ones = omega arith

-- a text has one year, one month and one day
pub numbers_same : (t : List ℕ) (y m d z n e : ℕ) → IsDateText t y m d → IsDateText t z n e
    → (y ≡ z) × (m ≡ n) × (d ≡ e)
numbers_same t y m d z n e a b = grind (arith, pair_same)

-- numbers of which the calendar has no day are no night
pub no_day : (t : List ℕ) (y m d : ℕ) → IsDateText t y m d → (IsDate (pos y) (pos m) (pos d) → ⊥) → night_in t ≡ None
no_day t y m d shown none =
    none_if (night_in t)
    (λ n is.
    let c = comes_from t n is in
    let same = numbers_same t _ _ _ _ _ _ shown (comes_shown t n c) in
    let date = c.date in
    let year : date.year ≡ pos y = c.year ∙ ap (λ z. pos z) (sym same.0) in
    let month : m ≡ date.month = same.1 in
    let short : date.day ≤ days_in_month (pos y) m = subst (λ z. date.day ≤ days_in_month z m) year (subst (λ z. date.day ≤ days_in_month date.year z) (sym month) date.day_in.1) in
    none (
      (omega (arith, signed_arith, shown.year_small), omega (arith, signed_arith, shown.year_small)),
      (omega (arith, signed_arith, date.month_in.0), omega (arith, signed_arith, date.month_in.1)),
      (omega (arith, signed_arith, date.day_in.0), omega (arith, signed_arith, short)),
    ))

-- the date of the numbers has the text
pub date_text-numbers : (t : List ℕ) (y m d : ℕ) (found : Date) → IsDateText t y m d → IsYmd (pos y) (pos m) (pos d) found
    → date_text found ≡ t
date_text-numbers t y m d found shown is = grind (arith, signed_arith)

-- a date is read as its text says
pub parsed-text : (t : List ℕ) (found : Date) → date_text found ≡ t → Ok (date_parts found) ≡ parse_date t
parsed-text t found shown = sym (parse_date-date_text found) ∙ ap parse_date shown
