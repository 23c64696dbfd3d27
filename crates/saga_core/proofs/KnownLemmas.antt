-- Facts on bytes that may be known. For the runs of both protocols.
use Rattle.std.proofs.Common.{◌≡◌, refl, List, ℕ, Option, Some, None, IfSome}

-- a fact of known bytes may be proved for the bytes that they equal
pub for_known : (known : Option (List ℕ)) (So : List ℕ → Type 0)
    → ((input : List ℕ) → known ≡ Some input → So input) → IfSome known So
for_known None So each = tt
for_known (Some input) So each = each input refl
