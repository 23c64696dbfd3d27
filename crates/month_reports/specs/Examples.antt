-- Worked examples of months, their summaries and their calendars: each is computed by the definitions.
use Rattle.std.specs.Prelude.{◌≡◌, List, [], ◌∷◌, ◌++◌, codes, map, refl}
use Rattle.std.specs.Fmt.{digits}
use Rattle.std.proofs.Common.{lit≤}
use Rattle.allotment.specs.Cells.{the_cell}
use Rattle.allotment.specs.declared.codes.Kind.TheVariants.{Room}
use Rattle.allotment.specs.declared.places.Held.{Held}
use Rattle.saga_core.specs.declared.report.Format.TheVariants.{Text}
use Rattle.month_reports.specs.Calendars.{mark_of}
use Rattle.month_reports.specs.Months.{Places, months_of}
use Rattle.month_reports.specs.MonthReports.{months_in}
use Rattle.saga_core.specs.declared.report.MonthReport.TheVariants.{Summary, Calendar}

-- ten places, of which nine are free; four, of which none is
abbrev pub nine_free : Held
nine_free = record { allot = 10; free = 9; within = lit≤ tt; bounded = lit≤ tt }

abbrev pub full : Held
full = record { allot = 4; free = 0; within = lit≤ tt; bounded = lit≤ tt }

-- a room on 2030-06-29, on 2030-06-30 and on 2030-07-01, and another room on that day
abbrev pub on_29 : Places
on_29 = (the_cell Room (codes "INN") (codes "X") 22094, nine_free)

abbrev pub on_30 : Places
on_30 = (the_cell Room (codes "INN") (codes "X") 22095, full)

abbrev pub on_1 : Places
on_1 = (the_cell Room (codes "INN") (codes "X") 22096, full)

abbrev pub other_on_1 : Places
other_on_1 = (the_cell Room (codes "INN") (codes "Y") 22096, full)

-- no cell has no month
pub has_no_month : months_of [] ≡ []
has_no_month = refl

-- a month ends with its last night, and with the product
pub cuts_at_the_month_and_at_the_product :
    months_of (on_29 ∷ on_30 ∷ on_1 ∷ other_on_1 ∷ [])
    ≡ (on_29 ∷ on_30 ∷ []) ∷ (on_1 ∷ []) ∷ (other_on_1 ∷ []) ∷ []
cuts_at_the_month_and_at_the_product = refl

-- a night that is not later begins another month
pub cuts_before_an_earlier_night : months_of (on_30 ∷ on_29 ∷ []) ≡ (on_30 ∷ []) ∷ (on_29 ∷ []) ∷ []
cuts_before_an_earlier_night = refl

-- two nights, and their places in all
pub shows_the_sums :
    months_in (Summary Text) (months_of (on_29 ∷ on_30 ∷ []))
    ≡ codes "kind     supplier product  month   nights    allot     held     free\n"
    ++ codes "room     INN      X        2030-06      2       14        5        9\n" ++ codes "months 1\n"
unfolding digits
shows_the_sums = refl

-- no places; ten, of which none, one, nine and all are held; and a hundred thousand, of which one is held, and one is free
abbrev pub how_full : List Held
how_full =
    record { allot = 0; free = 0; within = lit≤ tt; bounded = lit≤ tt }
    ∷ record { allot = 10; free = 10; within = lit≤ tt; bounded = lit≤ tt }
    ∷ record { allot = 10; free = 9; within = lit≤ tt; bounded = lit≤ tt }
    ∷ record { allot = 10; free = 1; within = lit≤ tt; bounded = lit≤ tt }
    ∷ record { allot = 10; free = 0; within = lit≤ tt; bounded = lit≤ tt }
    ∷ record { allot = 100000; free = 99999; within = lit≤ tt; bounded = lit≤ tt }
    ∷ record { allot = 100000; free = 1; within = lit≤ tt; bounded = lit≤ tt } ∷ []

pub marks_how_full : map mark_of how_full ≡ codes "-.19#19"
marks_how_full = refl

-- the last two nights of a June, of which one has a tenth of its places held and one is full, and a night of July
pub draws_the_nights :
    months_in Calendar (months_of (on_29 ∷ on_30 ∷ on_1 ∷ []))
    ≡ codes ". none held  1 to 9 tenths held  # all held  - none allotted  blank no night\n"
    ++ codes "                                             1         2         3\n"
    ++ codes "kind     supplier product  month    1234567890123456789012345678901\n"
    ++ codes "room     INN      X        2030-06 |                            1# |\n"
    ++ codes "room     INN      X        2030-07 |#                              |\n" ++ codes "months 2\n"
unfolding digits
draws_the_nights = refl
