-- The agents and keys of the requests that were answered last.
use Rattle.std.specs.Prelude.{ℕ, ◌-◌, ◌&&◌, Bool, List, [], ◌∷◌, ◌++◌, bytes_eq, drop, length, if◌then◌else◌}
use Rattle.std.specs.List.{list_any}

-- an agent and a key
abbrev pub Pair : Type 0
Pair = List ℕ × List ℕ

-- it is one of these
abbrev pub is_among : List Pair → Pair → Bool
is_among pairs pair = list_any (λ (p : Pair). bytes_eq p.0 pair.0 && bytes_eq p.1 pair.1) pairs

-- how many of them are remembered
abbrev pub most_recent : ℕ
most_recent = 1024

-- the last ones of them
abbrev pub last_of : List Pair → List Pair
last_of pairs = drop (length pairs - most_recent) pairs

-- these with one more, unless it is one of them; where they are too many, the oldest is forgotten
abbrev pub with_pair : List Pair → Pair → List Pair
with_pair pairs pair = if is_among pairs pair then pairs else last_of (pairs ++ pair ∷ [])
