-- All slots, and whose turn comes.
use Rattle.std.specs.Prelude.{◌≡◌, ℕ, List, [], ◌∷◌, Option, Some, None}
use Rattle.http_sockets.specs.declared.places.Place.{Place}
use Rattle.http_sockets.specs.declared.places.Places.{Places}
use Rattle.http_sockets.specs.Slots.{Changes, served}

-- what is known of each slot
abbrev pub slots_of : Places → List Place
slots_of places = places.places.items

-- the slots that have a turn in this round, in their order, and those that have one in the next round
abbrev pub round_of : Places → List ℕ
round_of places = places.round.items

abbrev pub next_of : Places → List ℕ
next_of places = places.next.items

-- the first slot of the round has had its turn, or the round has none
abbrev pub Serves : Option ℕ → Places → Places → Type 0
Serves None old new = (slots_of new ≡ slots_of old) × (round_of old ≡ [])
Serves (Some at) old new = Changes served at (slots_of old) (slots_of new) × (round_of old ≡ at ∷ round_of new)
