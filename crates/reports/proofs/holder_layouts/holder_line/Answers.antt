-- The format writes the line.
use Rattle.std.proofs.Common.{◌≡◌, ◌++◌, ◌∷◌, [], List, ℕ, append_assoc, arith, decimal, string_bytes}
use Rattle.reports.specs.Columns.{line}
use Rattle.reports.proofs.FillLemmas.{number_right}
use Rattle.reports.proofs.holder_layouts.holder_line.Goals as goal

-- the line in its columns
columns_joined : (journey step option places : List ℕ)
    → journey ++ (32 ∷ (step ++ (32 ∷ (option ++ (32 ∷ (places ++ 10 ∷ [])))))) ≡ line (journey ∷ step ∷ option ∷ places ∷ [])
columns_joined journey step option places = simp append_assoc

pub returns : goal.returns
returns c = grind (arith, string_bytes, decimal, number_right, columns_joined)
