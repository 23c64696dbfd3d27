-- A permutation of images is a permutation of values. For Answering.
use Rattle.std.proofs.Common.{◌≡◌, List, map, refl, IsPermutation}
use Rattle.sqlite_trees.proofs.ListLemmas.{pull_back}

-- a permutation of images is that of a permutation of the values
pub permuted : {X Y : Type 0} (f : X → Y) (xs : List X) (ys : List Y) → IsPermutation (map f xs) ys
    → (zs : List X) × (ys ≡ map f zs) × IsPermutation xs zs
permuted f xs ys same = let it = pull_back f (map f xs) ys same xs refl in (it.0, it.2, it.1)
