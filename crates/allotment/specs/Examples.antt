-- Worked examples: the texts of a kind, a code, a night, a cell, a row and a want.
use Rattle.std.specs.Prelude.{◌≡◌, ℕ, List, codes, IsTrue, refl}
use Rattle.std.specs.Fmt.{digits}
use Rattle.allotment.specs.Cells.{the_cell}
use Rattle.allotment.specs.Limits.{is_code, is_good_cell, is_night, is_want}
use Rattle.allotment.specs.Nights.{night_text}
use Rattle.allotment.specs.Rows.{allotted, is_row}
use Rattle.allotment.specs.Texts.{cell_text, row_text, want_text}
use Rattle.allotment.specs.Want.{Wanted, wanted}
use Rattle.allotment.specs.declared.cells.Cell.{Cell}
use Rattle.allotment.specs.declared.cells.Row.{Row}
use Rattle.allotment.specs.declared.codes.Kind.TheVariants.{Room}

-- a supplier of rooms
abbrev pub inn : List ℕ
inn = codes "INN"

pub inn_is_a_code : IsTrue (is_code inn)
inn_is_a_code = refl

-- the day number of 2030-06-01
abbrev pub june : ℕ
june = 22066

pub june_is_a_night : IsTrue (is_night june)
june_is_a_night = refl

pub june_has_this_text : night_text june ≡ codes "2030-06-01"
june_has_this_text = refl

-- a room of the first night
abbrev pub room : Cell
room = the_cell Room inn (codes "DBL") june

pub room_is_good : IsTrue (is_good_cell room)
room_is_good = refl

pub room_has_this_text : cell_text room ≡ codes "R/INN/DBL/2030-06-01"
room_has_this_text = refl

-- four places of it
abbrev pub four_rooms : Row
four_rooms = allotted room 4

pub four_rooms_keep_the_limits : IsTrue (is_row four_rooms)
four_rooms_keep_the_limits = refl

pub four_rooms_have_this_text : row_text four_rooms ≡ codes "R/INN/DBL/2030-06-01/4"
unfolding digits
four_rooms_have_this_text = refl

-- two rooms for three nights
abbrev pub three_nights : Wanted
three_nights = wanted Room inn (codes "DBL") june 3 2

pub three_nights_keep_the_limits : IsTrue (is_want three_nights)
three_nights_keep_the_limits = refl

pub three_nights_have_this_text : want_text three_nights ≡ codes "R/INN/DBL/2030-06-01/3/2"
unfolding digits
three_nights_have_this_text = refl
