-- The date of a night is the date that `jiff` has for its day number. For the dates of nights.
use Rattle.std.proofs.Common.{◌≡◌, ℕ, ◌+◌, ◌-◌, ◌≤◌, true, refl, sym, ◌∙◌, arith, pos}
use Rattle.jiff_core.specs.declared.civil.date.Date.{Date}
use Rattle.jiff_core.specs.Date.{epoch_day}
use Rattle.jiff_core.proofs.DateLemmas.{epoch_day_injective}
use Rattle.allotment.specs.Dates.{IsDateText}
use Rattle.allotment.specs.Limits.{first_night, is_night}
use Rattle.allotment.specs.Nights.{date_of, days_before, month_and_day, months, night_text, year_of}
use Rattle.allotment.proofs.JiffLemmas.{comes_from, comes_shown, numbers_same}
use Rattle.allotment.proofs.NightLemmas.{is_civil, night_in-night_text, night_range}

-- the date has the year, the month and the day of the night
pub record IsDateOf (n : ℕ) (d : Date) : Type 0 where
  pub year : d.year ≡ pos (2000 + (date_of n).0)
  pub month : d.month ≡ (date_of n).1.0
  pub day : d.day ≡ (date_of n).1.1
  pub within : (date_of n).0 ≤ 99
  pub in_year : (date_of n).1.0 ≤ 12
  pub from_one : 1 ≤ (date_of n).1.1
  pub short : (date_of n).1.1 ≤ 31

-- a date with the day number of a night is the night's: both have the night's text, which has one month and one day
pub date_of_night : (n : ℕ) (d : Date) → is_night n ≡ true → epoch_day d ≡ pos n → IsDateOf n d
date_of_night n d night is =
    let range = night_range n night in
    let k : ℕ = n - first_night in
    let civil = is_civil k (omega (arith, range.0, range.1)) in
    let place = month_and_day 1 (months (year_of k)) (k - days_before (year_of k)) in
    let spelled : IsDateText (night_text n) (2000 + year_of k) place.0 place.1 =
    record {
      year_small = omega (arith, civil.year);
      month_small = omega (arith, civil.place.to);
      day_small = omega (arith, civil.place.short);
      shown = refl;
    } in
    let comes = comes_from (night_text n) n (night_in-night_text n night) in
    let same = epoch_day_injective comes.date d (comes.day ∙ sym is) in
    let numbers = numbers_same (night_text n) _ _ _ _ _ _ (comes_shown (night_text n) n comes) spelled in
    record {
      year = sym same.0 ∙ comes.year;
      month = sym same.1 ∙ numbers.1;
      day = sym same.2 ∙ numbers.2;
      within = civil.year;
      in_year = omega (arith, civil.place.to);
      from_one = civil.place.day;
      short = civil.place.short;
    }
