-- Three exchanges of two slots, as they were merged, computed.
use Rattle.std.specs.Prelude.{◌≡◌, ℕ, List, [], ◌∷◌, false, codes, Some, refl}
use Rattle.desk_http.specs.declared.doors.Door.TheVariants.{Port}
use Rattle.http_conversations.specs.declared.modes.Mode.TheVariants.{Strict}
use Rattle.http_conversations.specs.Worlds.{Exchange}
use Rattle.http_live.specs.Merging.{Slotted, of_slot}

-- a message, and its page
abbrev pub exchange : List ℕ → List ℕ → Exchange
exchange bytes page = record { door = Port; mode = Strict; bytes = bytes; went_on = false; page = Some page }

-- slot 0 has the first and the last, slot 1 the one between
abbrev pub three : List Slotted
three = (0, exchange (codes "a") (codes "1")) ∷ (1, exchange (codes "b") (codes "2")) ∷ (0, exchange (codes "c") (codes "3")) ∷ []

pub of_the_first : of_slot 0 three ≡ exchange (codes "a") (codes "1") ∷ exchange (codes "c") (codes "3") ∷ []
of_the_first = refl

pub of_the_second : of_slot 1 three ≡ exchange (codes "b") (codes "2") ∷ []
of_the_second = refl

pub of_nobody : of_slot 2 three ≡ []
of_nobody = refl
