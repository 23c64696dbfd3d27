-- Samples, one after another, for the loops over counts and buckets; and the parts of the text.
use Rattle.std.proofs.Common.{◌≡◌, ◌∙◌, ℕ, ◌+◌, ◌<◌, List, [], ◌∷◌, ◌++◌, length, take, get_or, ap}
use Rattle.std.specs.List.{flat_map}
use Rattle.http_log.specs.MetricsText.{joined}
use Rattle.std.proofs.lemmas.Grind.{flat_map-append}
use Rattle.std.proofs.lemmas.List.{append-nil, take_more}

-- one more text stands after the others
pub flat_more : {X : Type 0} (f : X → List ℕ) (xs : List X) (k : ℕ) (d : X) → k < length xs
    → flat_map f (take (k + 1) xs) ≡ flat_map f (take k xs) ++ f (get_or xs k d)
flat_more f xs k d lt =
    ap (flat_map f) (take_more xs k d lt)
    ∙ flat_map-append f (take k xs) (get_or xs k d ∷ [])
    ∙ ap (λ z. flat_map f (take k xs) ++ z) (append-nil (f (get_or xs k d)))

-- parts that are equal are joined to the same text
pub joined_same : (a b c d ledger connections requests commands : List ℕ) → a ≡ ledger → b ≡ connections → c ≡ requests → d ≡ commands
    → a ++ (b ++ (c ++ d)) ≡ joined (ledger ∷ connections ∷ requests ∷ []) commands
joined_same a b c d ledger connections requests commands first second third fourth = cc
