-- The marks of a month's days, of which one after another is set. For the line of a calendar.
use Rattle.std.proofs.Common.{◌≡◌, ◌∙◌, ap, sym, refl, ℕ, zero, suc, ◌+◌, ◌<◌, List, [], ◌∷◌, ◌++◌, append_assoc, length, map, get_or, arith, ◌==◌, Bool, if◌then◌else◌, reverse, set, Some}
use Rattle.std.specs.List.{slice_get}
use Rattle.std.proofs.lemmas.Bool.{eqb-true, eqb-false}
use Rattle.std.proofs.lemmas.List.{ext_get_or, get_or-set_other, get_or-set_same, map-append, reverse-append}
use Rattle.allotment.specs.Cells.{numbers_from}
use Rattle.allotment.specs.Texts.{bar, blank}
use Rattle.reports.specs.Columns.{line}
use Rattle.month_reports.specs.Calendars.{calendar_line, calendar_row, day_in_month, mark_of, mark_on, marks_of}
use Rattle.month_reports.specs.Months.{Places}

-- each day has its mark
abbrev pub Shows : List ℕ → List Places → Type 0
Shows marks month = (day : ℕ) → day < 31 → get_or marks day blank ≡ mark_on month (day + 1)

-- at first each day is blank
pub shows_none : Shows (map (λ (day : ℕ). blank) (numbers_from 1 31)) []
shows_none day small = blanks 1 31 day small
  where
    blanks : (first n i : ℕ) → i < n → get_or (map (λ (day : ℕ). blank) (numbers_from first n)) i blank ≡ blank
    blanks first zero i small = absurd (omega (arith, small))
    blanks first (suc n) zero small = refl
    blanks first (suc n) (suc i) small = blanks (suc first) n i (omega (arith, small))

-- a night before the others sets the mark on its day, and no other
pub shows_more : (marks : List ℕ) (month : List Places) (row : Places) (place : ℕ)
    → length marks ≡ 31 → place < 31 → day_in_month row.0 ≡ place + 1 → Shows marks month
    → Shows (set marks place (mark_of row.1)) (row ∷ month)
shows_more marks month row place long inside is shown = λ day small. by day small (day_in_month row.0 == day + 1) refl
  where
    by : (day : ℕ) → day < 31 → (same : Bool) → day_in_month row.0 == day + 1 ≡ same
        → get_or (set marks place (mark_of row.1)) day blank ≡ (if same then mark_of row.1 else mark_on month (day + 1))
    by day small here same = grind (arith, eqb-true, get_or-set_same, eqb-false, get_or-set_other)

-- the days that have their marks are the row of the month
pub shows_all : (marks : List ℕ) (month : List Places) → length marks ≡ 31 → Shows marks month → marks ≡ marks_of month
shows_all marks month long shown =
    ext_get_or blank marks (marks_of month) long (λ day within.
    shown day (omega (arith, long, within)) ∙ sym (numbered (mark_on month) 1 31 day (omega (arith, long, within))
    ∙ ap (mark_on month) (one_more day)))
  where
    one_more : (day : ℕ) → 1 + day ≡ day + 1
    one_more day = omega arith

    at_first : (first : ℕ) → first ≡ first + 0
    at_first first = omega arith

    at_next : (first i : ℕ) → suc first + i ≡ first + suc i
    at_next first i = omega arith

    numbered : (f : ℕ → ℕ) (first n i : ℕ) → i < n → get_or (map f (numbers_from first n)) i blank ≡ f (first + i)
    numbered f first zero i small = absurd (omega (arith, small))
    numbered f first (suc n) zero small = ap f (at_first first)
    numbered f first (suc n) (suc i) small =
        numbered f (suc first) n i (omega (arith, small)) ∙ ap f (at_next first i)

-- what was gone through from the last one on, one more
pub reversed_more : {A B : Type 0} (v : A → B) (xs : List A) (x : A) → reverse (map v (xs ++ x ∷ [])) ≡ v x ∷ reverse (map v xs)
reversed_more v xs x = ap reverse (map-append v xs (x ∷ [])) ∙ reverse-append (map v xs) (v x ∷ [])

-- the line in the parts in which it is written
pub line_parts : (product month marks : List ℕ)
    → ((product ++ 32 ∷ (month ++ 32 ∷ 124 ∷ [])) ++ marks) ++ 124 ∷ 10 ∷ []
    ≡ line (product ∷ month ∷ (bar ∷ marks ++ bar ∷ []) ∷ [])
line_parts product month marks = simp append_assoc

-- the line of a month in a summary, in its parts too
pub summary_parts : (product month sums : List ℕ) → product ++ (32 ∷ (month ++ (32 ∷ (sums ++ 10 ∷ [])))) ≡ line (product ∷ month ∷ sums ∷ [])
summary_parts product month sums = simp append_assoc

-- the line of a month is that of its first cell
pub row_by_first : (month : List Places) (row : Places) → Some row ≡ slice_get month 0
    → calendar_row month ≡ calendar_line row.0 (marks_of month)
row_by_first [] row is = grind arith
row_by_first (first ∷ later) row is = grind arith
