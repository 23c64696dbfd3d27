-- How a want is made of texts and numbers, and what may be wrong with them.
use Rattle.std.specs.Prelude.{ℕ, ◌&&◌, Bool, List, [], ◌∷◌, ◌++◌, if◌then◌else◌, Option, is_some, unwrap_or, Result, Ok, Err}
use Rattle.allotment.specs.Want.{Wanted, wanted}
use Rattle.allotment.specs.Limits.{is_code, are_nights, is_count}
use Rattle.allotment.specs.Nights.{night_in}
use Rattle.allotment.specs.declared.codes.Kind.{Kind}
use Rattle.allotment.specs.declared.wants.Bad.{Bad}
use Rattle.allotment.specs.declared.wants.Bad.TheVariants as bad

-- what is wrong, unless the test holds
abbrev pub unless : {F : Type 0} → Bool → F → List F
unless passes fault = if passes then [] else fault ∷ []

-- the value, or the first thing that is wrong with it
abbrev pub first_fault : {X F : Type 0} → X → List F → Result X F
first_fault value [] = Ok value
first_fault value (fault ∷ later) = Err fault

-- all that is wrong with a want of these parts, in the order in which it is reported
abbrev pub want_faults : Kind → List ℕ → List ℕ → Option ℕ → ℕ → ℕ → List Bad
want_faults kind supplier product first nights count =
    unless (is_code supplier && is_code product) bad.Code
    ++ unless (is_some first) bad.Night
    ++ unless (are_nights kind (unwrap_or first 0) nights) bad.Nights
    ++ unless (is_count count) bad.Count

-- the want of these parts, if there is a first night
abbrev pub want_of_parts : Kind → List ℕ → List ℕ → Option ℕ → ℕ → ℕ → Wanted
want_of_parts kind supplier product first nights count =
    wanted kind supplier product (unwrap_or first 0) nights count

-- the want of these parts, or the first thing that is wrong with them
abbrev pub want_from : Kind → List ℕ → List ℕ → Option ℕ → ℕ → ℕ → Result Wanted Bad
want_from kind supplier product first nights count =
    first_fault (want_of_parts kind supplier product first nights count)
    (want_faults kind supplier product first nights count)

-- the same, where the first night stands as a text
abbrev pub want_made : Kind → List ℕ → List ℕ → List ℕ → ℕ → ℕ → Result Wanted Bad
want_made kind supplier product first nights count =
    want_from kind supplier product (night_in first) nights count
