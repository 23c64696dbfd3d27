-- What is free of each night of a want.
use Rattle.std.specs.Prelude.{ℕ, ◌==◌, Bool, false, List, find, map, nat_le, Option, option_map, unwrap_or}
use Rattle.allotment.specs.Cells.{cells_of}
use Rattle.allotment.specs.Want.{Wanted}
use Rattle.allotment.specs.declared.cells.Cell.{Cell}
use Rattle.allotment.specs.declared.places.Held.{Held}
use Rattle.ledger.specs.Ledger.{Event}
use Rattle.saga_core.specs.Views.{Places, places_at, places_of}
use Rattle.previews.specs.declared.nights.FreeNight.{FreeNight}

-- the night of a cell with these places; if it has no allotment, it has none
abbrev pub night_with : Cell → Option Places → FreeNight
night_with x places = record { night = x.night; free = option_map (λ (p : Places). p.free) places }

-- what a ledger has free of each night of a want
abbrev pub nights_of : List Event → Wanted → List FreeNight
nights_of l want = map (λ x. night_with x (places_of l x)) (cells_of want)

-- the same, of a list of cells with their places
abbrev pub nights_in : List (Cell × Held) → Wanted → List FreeNight
nights_in rows want = map (λ x. night_with x (places_at rows x)) (cells_of want)

-- a night, and what is free of it by a list of nights with their places; one that is not listed has no allotment
abbrev pub night_among : List (ℕ × Held) → ℕ → FreeNight
night_among places night = record {
  night = night;
  free = option_map (λ (n : ℕ × Held). n.1.free) (find (λ (n : ℕ × Held). n.0 == night) places);
}

-- the nights of a want, by such a list
abbrev pub nights_among : List (ℕ × Held) → Wanted → List FreeNight
nights_among places want = map (λ (x : Cell). night_among places x.night) (cells_of want)

-- the night is allotted, and has so many free places
abbrev pub has_room : ℕ → FreeNight → Bool
has_room count n = unwrap_or (option_map (nat_le count) n.free) false
