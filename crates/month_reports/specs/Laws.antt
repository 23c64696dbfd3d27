-- That each month of a product is one run, where cells come in the order of the stock.
use Rattle.std.specs.Prelude.{◌==◌, ◌&&◌, not, Bool, true, List, [], ◌∷◌}
use Rattle.std.specs.List.{flat_map, list_all}
use Rattle.allotment.specs.Nights.{date_of}
use Rattle.allotment.specs.Limits.{is_night}
use Rattle.allotment.specs.declared.cells.Cell.{Cell}
use Rattle.month_reports.specs.Months.{is_product, Places}

-- two cells are of one product, and their nights are in one month of the calendar
abbrev pub is_same_month : Cell → Cell → Bool
is_same_month x y =
    is_product x y
    && (((date_of x.night).0 == (date_of y.night).0) && ((date_of x.night).1.0 == (date_of y.night).1.0))

-- each cell is of a night
abbrev pub have_nights : List Places → Bool
have_nights rows = list_all (λ (row : Places). is_night row.0.night) rows

-- the cells of these months, one month after another
abbrev pub cells_in : List (List Places) → List Places
cells_in months = flat_map (λ (month : List Places). month) months

-- none of these cells is of the product and the month of this one
abbrev pub is_apart : List Places → Places → Bool
is_apart rows x = list_all (λ (y : Places). not (is_same_month x.0 y.0)) rows

-- no two of these months have cells of one product and one month of the calendar
abbrev pub are_apart : List (List Places) → Bool
are_apart [] = true
are_apart (month ∷ later) = list_all (is_apart (cells_in later)) month && are_apart later
