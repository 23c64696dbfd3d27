-- The positions at which save-points were taken while a journey ran: a set of numbers, none past the last mark.
use Rattle.std.specs.Prelude.{◌≡◌, ℕ, ◌-◌, Bool, IsTrue}
use Rattle.std.specs.Ordering.{nat_cmp}
use Rattle.std.specs.Cmp.{nat_cmp_total}
use Rattle.std.specs.FinSet as set
use Rattle.std.specs.FinSet.{same_set, nat_cmp-IsAntisymmetric}
use Rattle.allotment.specs.Limits.{is_between}
use Rattle.plan.specs.Limits.{most_steps}

-- the last position at which a save-point may be taken: none is taken after the last step
abbrev pub last_mark : ℕ
last_mark = most_steps - 1

-- a save-point was taken at p
abbrev pub is_taken_in : set.FinSet nat_cmp → ℕ → Bool
is_taken_in marks p = set.contains marks p

-- the save-points were taken at positions from 1 to the last mark
abbrev pub AreInRange : set.FinSet nat_cmp → Type 0
AreInRange marks = (p : ℕ) → IsTrue (is_taken_in marks p) → IsTrue (is_between 1 last_mark p)

-- two sets with the same members are equal
pub same_marks :
    (marks others : set.FinSet nat_cmp)
    → ((p : ℕ) → is_taken_in marks p ≡ is_taken_in others p)
    → marks ≡ others
same_marks marks others same = same_set nat_cmp_total nat_cmp-IsAntisymmetric marks others same
