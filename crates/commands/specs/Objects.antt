-- JSON objects by their members, in the order of their names.
use Rattle.std.specs.Prelude.{ℕ, List, [], ◌∷◌, codes}
use Rattle.serde_json.specs.Data.{Data, number, unsigned, string, object, Members, no_members, member}
use Rattle.commands.specs.Texts.{phase_word}
use Rattle.commands.specs.declared.items.Phase.{Phase}
use Rattle.commands.specs.declared.items.Phase.TheVariants.{Run, Back, Ended, Undone}

-- a member of an object: its name and its value
abbrev pub Named : Type 0
Named = List ℕ × Data

-- these members
abbrev pub members : List Named → Members
members [] = no_members
members (m ∷ later) = member m.0 m.1 (members later)

-- the object with these members
abbrev pub json : List Named → Data
json ms = object (members ms)

-- a whole number from 0 on
abbrev pub whole : ℕ → Data
whole n = number (unsigned n)

-- a member that is a whole number
abbrev pub counts : List ℕ → ℕ → Named
counts name n = (name, whole n)

-- a member that is a text
abbrev pub says : List ℕ → List ℕ → Named
says name text = (name, string text)

-- the position to which a journey goes back, if it does
abbrev pub target_member : Phase → List Named
target_member Run = []
target_member (Back target) = counts (codes "target") target ∷ []
target_member Ended = []
target_member Undone = []

-- where the journey of this number is: its position, what it is doing, and its target if it goes back
abbrev pub standing_members : ℕ → ℕ → Phase → List Named
standing_members id pos phase =
    counts (codes "journey") id ∷ counts (codes "pos") pos
    ∷ says (codes "state") (phase_word phase) ∷ target_member phase
