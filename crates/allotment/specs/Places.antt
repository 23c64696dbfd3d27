-- The places of a cell, and whether a want fits.
use Rattle.std.specs.Prelude.{ℕ, ◌-◌, ◌==◌, ◌&&◌, Bool, List, nat_le}
use Rattle.std.specs.List.{list_all, list_any}
use Rattle.allotment.specs.Want.{Wanted}
use Rattle.allotment.specs.Cells.{numbers_from}
use Rattle.allotment.specs.declared.places.Held.{Held}

-- how many places journeys hold
abbrev pub held_of : Held → ℕ
held_of held = held.allot - held.free

-- the night stands in the list with at least so many free places
abbrev pub has_free : List (ℕ × Held) → ℕ → ℕ → Bool
has_free rows count night = list_any (λ (row : ℕ × Held). (row.0 == night) && nat_le count row.1.free) rows

-- the want fits: each of its nights stands in the list with at least its count of free places
abbrev pub fits_in : List (ℕ × Held) → Wanted → Bool
fits_in rows want = list_all (has_free rows want.count) (numbers_from want.first want.nights)
