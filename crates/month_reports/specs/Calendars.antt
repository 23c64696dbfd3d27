-- The calendar of a month: its days from 1 to 31 in a row, each with a mark that says how full the night is.
use Rattle.std.specs.Prelude.{ℕ, ◌+◌, ◌*◌, ◌/◌, ◌==◌, List, [], ◌∷◌, ◌++◌, map, max, codes, if◌then◌else◌}
use Rattle.allotment.specs.Nights.{date_of}
use Rattle.allotment.specs.Cells.{numbers_from}
use Rattle.allotment.specs.Places.{held_of}
use Rattle.allotment.specs.Texts.{bar, blank}
use Rattle.allotment.specs.declared.cells.Cell.{Cell}
use Rattle.allotment.specs.declared.places.Held.{Held}
use Rattle.reports.specs.Columns.{left, line}
use Rattle.month_reports.specs.Months.{Places}
use Rattle.month_reports.specs.Summaries.{month_text, product_columns}

-- the marks of a night with no place that is held, with no place that is free, and with no place at all: `.`, `#` and `-`
abbrev pub none_held : ℕ
none_held = 46

abbrev pub all_held : ℕ
all_held = 35

abbrev pub none_allotted : ℕ
none_allotted = 45

-- how many tenths of the places are held, rounded down, but at least one
abbrev pub tenths_of : Held → ℕ
tenths_of places = max 1 (10 * held_of places / places.allot)

-- the mark of a night: where some of its places are held and some are free, the digit of the tenths that are held
abbrev pub mark_of : Held → ℕ
mark_of places =
    if places.allot == 0 then none_allotted
    else if held_of places == 0 then none_held
    else if places.free == 0 then all_held
    else 48 + tenths_of places

-- the day of a cell in its month
abbrev pub day_in_month : Cell → ℕ
day_in_month cell = (date_of cell.night).1.1

-- the mark on a day: that of the month's night on this day, blank where it has none
abbrev pub mark_on : List Places → ℕ → ℕ
mark_on [] day = blank
mark_on (row ∷ later) day = if day_in_month row.0 == day then mark_of row.1 else mark_on later day

-- the marks on the days from 1 to 31
abbrev pub marks_of : List Places → List ℕ
marks_of month = map (mark_on month) (numbers_from 1 31)

-- the line of a month with these marks, of which a cell is this one
abbrev pub calendar_line : Cell → List ℕ → List ℕ
calendar_line cell marks =
    line (product_columns cell ∷ month_text cell.night ∷ (bar ∷ marks ++ bar ∷ []) ∷ [])

-- what comes before the months: what the marks say, the tens of the days, and the names of the columns with their ones
abbrev pub calendar_head : List ℕ
calendar_head =
    line (codes ". none held  1 to 9 tenths held  # all held  - none allotted  blank no night" ∷ [])
    ++ line (left 34 [] ∷ codes "          1         2         3" ∷ [])
    ++ line
    (left 8 (codes "kind") ∷ left 8 (codes "supplier") ∷ left 8 (codes "product") ∷ left 7 (codes "month")
    ∷ codes " 1234567890123456789012345678901" ∷ [])

-- the line of a month
abbrev pub calendar_row : List Places → List ℕ
calendar_row [] = []
calendar_row (row ∷ later) = calendar_line row.0 (marks_of (row ∷ later))
