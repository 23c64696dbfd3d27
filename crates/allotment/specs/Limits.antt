-- The limits that cells and wants keep.
use Rattle.std.specs.Prelude.{ℕ, ◌+◌, ◌-◌, ◌&&◌, ◌||◌, Bool, List, length, nat_le}
use Rattle.std.specs.List.{list_all}
use Rattle.allotment.specs.Want.{Wanted}
use Rattle.allotment.specs.declared.codes.Kind.{Kind}
use Rattle.allotment.specs.declared.codes.Kind.TheVariants.{Flight, Room, Transfer, Cover}
use Rattle.allotment.specs.declared.cells.Cell.{Cell}

-- a number from low to high, both included
abbrev pub is_between : ℕ → ℕ → ℕ → Bool
is_between low high n = nat_le low n && nat_le n high

-- 0 to 9
abbrev pub is_digit : ℕ → Bool
is_digit byte = is_between 48 57 byte

-- A to Z
abbrev pub is_capital : ℕ → Bool
is_capital byte = is_between 65 90 byte

-- a to z
abbrev pub is_small : ℕ → Bool
is_small byte = is_between 97 122 byte

-- a text of at least one byte and at most so many, each of which passes
abbrev pub is_word : (ℕ → Bool) → ℕ → List ℕ → Bool
is_word passes most bytes = is_between 1 most (length bytes) && list_all passes bytes

-- the most bytes that a supplier's or a product's name may have
abbrev pub longest_code : ℕ
longest_code = 8

-- a supplier or a product: 1 to 8 of A-Z and 0-9
abbrev pub is_code : List ℕ → Bool
is_code bytes = is_word (λ byte. is_capital byte || is_digit byte) longest_code bytes

-- 2000-01-01, counted from 1970-01-01
abbrev pub first_night : ℕ
first_night = 10957

-- 2099-12-31, counted so too
abbrev pub last_night : ℕ
last_night = 47481

-- a day from the first night to the last
abbrev pub is_night : ℕ → Bool
is_night day = is_between first_night last_night day

-- how many nights a want of this kind may have
abbrev pub most_nights : Kind → ℕ
most_nights Flight = 1
most_nights Room = 30
most_nights Transfer = 1
most_nights Cover = 60

-- so many nights from this one on: as many as the kind may have, the last one a night too
abbrev pub are_nights : Kind → ℕ → ℕ → Bool
are_nights kind first nights = is_between 1 (most_nights kind) nights && is_night (first + nights - 1)

-- the most places of a night that a want may take
abbrev pub most_count : ℕ
most_count = 50

-- how many places of a night a want may take
abbrev pub is_count : ℕ → Bool
is_count count = is_between 1 most_count count

-- the want keeps the limits
abbrev pub is_want : Wanted → Bool
is_want w =
    is_code w.supplier && is_code w.product && is_night w.first && are_nights w.kind w.first w.nights
    && is_count w.count

-- the cell keeps the limits
abbrev pub is_good_cell : Cell → Bool
is_good_cell x = is_code x.supplier && is_code x.product && is_night x.night

-- how many places of a cell may be allotted
abbrev pub most_places : ℕ
most_places = 100000
