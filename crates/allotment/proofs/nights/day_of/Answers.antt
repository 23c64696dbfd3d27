-- More than 60 lines: four ways out and four lemmas of its own.
use Rattle.std.proofs.Common.{◌≡◌, ℕ, ◌<◌, ◌≤◌, List, None, sym, subst, ◌∙◌, arith, pos, nat_abs, to_z, of_z, w8, w16, w32, le-leb}
use Rattle.std.proofs.lemmas.Int.{ints}
use Rattle.jiff_core.specs.declared.civil.date.Date.{Date}
use Rattle.jiff_core.specs.Calendar.{IsDate}
use Rattle.jiff_core.specs.Date.{IsYmd}
use Rattle.jiff_core.proofs.SignedLemmas.{signed_arith}
use Rattle.allotment.specs.Limits.{first_night, last_night}
use Rattle.jiff_fmt.specs.Text.{date_text}
use Rattle.allotment.specs.Nights.{night_in}
use Rattle.allotment.specs.Dates.{IsNoDate, IsDateText}
use Rattle.allotment.proofs.TestLemmas.{and_make}
use Rattle.allotment.proofs.NightLemmas.{night_range}
use Rattle.allotment.proofs.JiffLemmas.{no_date, no_day, date_text-numbers, parsed-text, out_of_range, night_of_date}
use Rattle.allotment.proofs.nights.day_of.Goals as goal
use Rattle.allotment.proofs.nights.day_of.Goals.{then-day-lt-FIRST-via-then-day-lt-FIRST, then-day-lt-FIRST-via-else-day-lt-FIRST+then-day-gt-LAST}

-- a year of four digits is the same number with a sign
signed_year : (y : ℕ) → y < 10000 → to_z w16 y ≡ pos y
signed_year y small = omega (arith, ints)

-- a number of two digits is the same number with a sign
signed_pair : (n : ℕ) → n < 100 → to_z w8 n ≡ pos n
signed_pair n small = omega (arith, ints)

-- the date that the calendar has for the numbers is that of the text
date_here : (t : List ℕ) (y m d : ℕ) (found : Date) → IsDateText t y m d → IsYmd (to_z w16 y) (to_z w8 m) (to_z w8 d) found
    → date_text found ≡ t
date_here t y m d found shown is = grind (arith, date_text-numbers, signed_year, signed_pair)

-- where it has none, the text is that of no night
no_day_here : (t : List ℕ) (y m d : ℕ) → IsDateText t y m d → (IsDate (to_z w16 y) (to_z w8 m) (to_z w8 d) → ⊥)
    → night_in t ≡ None
no_day_here t y m d shown none =
    no_day t y m d shown (λ is.
    none (subst (λ z. IsDate z (to_z w8 m) (to_z w8 d)) (sym (signed_year y shown.year_small))
    (subst (λ z. IsDate (pos y) z (to_z w8 d)) (sym (signed_pair m shown.month_small))
    (subst (λ z. IsDate (pos y) (pos m) z) (sym (signed_pair d shown.day_small)) is))))

-- no numbers stand there
pub returns-in_err-year : goal.returns-in_err-year
returns-in_err-year c =
    c.from_residual.ensures ∙ sym (no_date c.args.text.now (subst IsNoDate c.as_bytes.ensures.value c.in_err-year.ensures))

-- the calendar has no such day
pub returns-in_default : goal.returns-in_default
returns-in_default c =
    let p = c.in_ok-year in
    let shown : IsDateText c.args.text.now p.year p.month p.day = subst (λ t. IsDateText t p.year p.month p.day) c.as_bytes.ensures.value p.ensures in
    sym (no_day_here c.args.text.now p.year p.month p.day shown (λ is. let none = c.in_default.ensures.succeeds.1 is in cc))

-- a day out of range is no night's
pub returns-then-day-lt-FIRST : goal.returns-then-day-lt-FIRST
returns-then-day-lt-FIRST c =
    let p = c.in_ok-year in
    let text = c.args.text.now in
    let shown : IsDateText text p.year p.month p.day = subst (λ t. IsDateText t p.year p.month p.day) c.as_bytes.ensures.value p.ensures in
    let same_text = date_here text p.year p.month p.day c.in-Ok.date shown c.in-Ok.ensures.value in
    sym (out_of_range text c.in-Ok.date (parsed-text text c.in-Ok.date same_text) (λ n day night.
    let range = night_range n night in
    elim c.then-day-lt-FIRST.branch [
      | then-day-lt-FIRST-via-then-day-lt-FIRST w ↦ let before = w.if-day-lt-FIRST.true in omega (arith, ints, signed_arith)
      | then-day-lt-FIRST-via-else-day-lt-FIRST+then-day-gt-LAST w ↦ let after = w.if-day-gt-LAST.true in omega (arith, ints, signed_arith)
    ]))

-- the date's text is the text, and its day is a night
pub returns : goal.returns
returns c =
    let p = c.in_ok-year in
    let text = c.args.text.now in
    let shown : IsDateText text p.year p.month p.day = subst (λ t. IsDateText t p.year p.month p.day) c.as_bytes.ensures.value p.ensures in
    let day = c.to_unix_epoch_day-day.result in
    let n = nat_abs (to_z w32 (of_z w32 day)) in
    let same : day ≡ pos n = omega (arith, ints, signed_arith) in
    let to : n ≤ last_night = omega (arith, ints, signed_arith) in
    sym (night_of_date text c.in-Ok.date n (date_here text p.year p.month p.day c.in-Ok.date shown c.in-Ok.ensures.value) (sym c.to_unix_epoch_day-day.ensures.value ∙ same)
    (and_make _ _ (le-leb first_night n (omega (arith, ints, signed_arith))) (le-leb n last_night to)))
