-- Facts on lists of faults and on searches. For reading a line and for its spelling.
use Rattle.std.proofs.Common.{◌≡◌, Bool, true, List, [], ◌∷◌, ◌++◌, refl, Option, Some, Ok, flat_map, is_some, arith, unwrap_or}
use Rattle.std.specs.List.{AllByRecursion}
use Rattle.allotment.specs.Making.{unless, first_fault}
pub use Rattle.allotment.proofs.LawLemmas.{find_passes}

-- if a joined list is empty, both its parts are
pub append_none : {X : Type 0} (xs ys : List X) → xs ++ ys ≡ [] → (xs ≡ []) × (ys ≡ [])
append_none [] ys e = (refl, e)
append_none (x ∷ xs) ys e = cc

-- where nothing is wrong, the test holds
pub unless_none : {F : Type 0} (b : Bool) (f : F) → unless b f ≡ [] → b ≡ true
unless_none b f e = grind arith

-- where nothing is wrong with all, nothing is wrong with each
pub flat_map_none : {X Y : Type 0} (f : X → List Y) (xs : List X) → flat_map f xs ≡ [] → AllByRecursion (λ x. f x ≡ []) xs
flat_map_none f [] e = tt
flat_map_none f (x ∷ xs) e = let both = append_none (f x) (flat_map f xs) e in (both.0, flat_map_none f xs both.1)

-- an `Ok` result has no fault
pub first_fault_ok : {X F : Type 0} (x y : X) (fs : List F) → first_fault x fs ≡ Ok y → (fs ≡ []) × (x ≡ y)
first_fault_ok x y fs e = grind arith

-- an option that is there
pub some_is : {X : Type 0} (o : Option X) (d : X) → is_some o ≡ true → o ≡ Some (unwrap_or o d)
some_is o d e = grind arith
