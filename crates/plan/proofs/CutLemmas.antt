-- Texts with too many parts. For the parts of an option.
use Rattle.std.proofs.Common.{◌≡◌, ℕ, ◌≤◌, List, ◌∷◌, length, ap, ◌∙◌, arith, None}
use Rattle.plan.specs.PlanLine.{option_of_parts}

-- an option has no seventh part
seventh : (k s p f n x : List ℕ) (more : List (List ℕ)) → 1 ≤ length more
    → option_of_parts (k ∷ s ∷ p ∷ f ∷ n ∷ x ∷ more) ≡ None
seventh k s p f n x more some = grind arith

-- a text with seven parts or more is no option
pub seven_parts : (ps more : List (List ℕ)) (k s p f n x : List ℕ)
    → ps ≡ k ∷ s ∷ p ∷ f ∷ n ∷ x ∷ more → 1 ≤ length more → option_of_parts ps ≡ None
seven_parts ps more k s p f n x e some = ap option_of_parts e ∙ seventh k s p f n x more some
