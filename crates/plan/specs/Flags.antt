-- A set of positions as it is stored: one flag for each position from 0 on, as many flags as a plan may have steps.
use Rattle.std.specs.Prelude.{◌≡◌, ℕ, ◌+◌, ◌==◌, ◌&&◌, ◌||◌, zero, suc, Bool, true, false, cond, List, ◌∷◌, length, map, nat_le, nat_lt, slice_index_or, refl}
use Rattle.std.specs.List.{range_with_len, list_any, filter}
use Rattle.std.specs.Ordering.{nat_cmp}
use Rattle.std.specs.FinSet as set
use Rattle.std.specs.FinSet.{contains-from_list_nat}
use Rattle.std.proofs.Common.{◌∙◌, sym, arith}
use Rattle.std.proofs.lemmas.Bool.Decides.{nat_tests}
use Rattle.std.proofs.lemmas.List.{get_or_past}
use Rattle.std.proofs.lemmas.List.FromFn.{fill_by_all}
use Rattle.plan.specs.Limits.{most_steps}
use Rattle.plan.specs.Marks.{is_taken_in}

-- the flag of position p stands; there is none past the last one
abbrev pub is_flagged : List Bool → ℕ → Bool
is_flagged flags p = slice_index_or flags p false

-- the set of the positions whose flags stand
unfoldable pub flagged : List Bool → set.FinSet nat_cmp
flagged flags = set.from_list (filter (is_flagged flags) (range_with_len 0 most_steps))

-- the flags of a set
unfoldable pub flags_of : set.FinSet nat_cmp → List Bool
flags_of marks = map (is_taken_in marks) (range_with_len 0 most_steps)

-- there is a flag for each position from 0 to the last mark, and the one of 0 does not stand
pub record AreFlags (flags : List Bool) : Type 0 where
  pub whole : length flags ≡ most_steps
  pub start : is_flagged flags 0 ≡ false

-- no number is at least the first one and below it
none_between :
    (passes : ℕ → Bool) (first p : ℕ)
    → false ≡ (nat_le first p && nat_lt p (first + 0) && passes p)
none_between passes first p = grind (arith, nat_tests)

-- where the first number passes, it is the first member
first_passes :
    (passes : ℕ → Bool) (first more p : ℕ) (rest : Bool)
    → passes first ≡ true
    → rest ≡ (nat_le (first + 1) p && nat_lt p (first + 1 + more) && passes p)
    → ((first == p) || rest) ≡ (nat_le first p && nat_lt p (first + suc more) && passes p)
first_passes passes first more p rest passed is = grind (arith, nat_tests)

-- where the first number fails, the members are among the others
first_fails :
    (passes : ℕ → Bool) (first more p : ℕ) (rest : Bool)
    → passes first ≡ false
    → rest ≡ (nat_le (first + 1) p && nat_lt p (first + 1 + more) && passes p)
    → rest ≡ (nat_le first p && nat_lt p (first + suc more) && passes p)
first_fails passes first more p rest failed is = grind (arith, nat_tests)

-- of so many consecutive numbers those that pass are the members, and no others
list_any-filter :
    (passes : ℕ → Bool) (first more p : ℕ)
    → list_any (λ q. q == p) (filter passes (range_with_len first more))
    ≡ (nat_le first p && nat_lt p (first + more) && passes p)
list_any-filter passes first zero p = none_between passes first p
list_any-filter passes first (suc more) p =
    let members : List ℕ = filter passes (range_with_len (first + 1) more) in
    let later = list_any-filter passes (first + 1) more p in
    elim (passes first) as (λ b. passes first ≡ b
    → list_any (λ q. q == p) (cond b (first ∷ members) members)
    ≡ (nat_le first p && nat_lt p (first + suc more) && passes p)) [
      | true ↦ λ passed. first_passes passes first more p _ passed later
      | false ↦ λ failed. first_fails passes first more p _ failed later
    ] refl

-- past the last flag none stands, so the limit may be left out
below_last :
    (flags : List Bool) (p : ℕ)
    → length flags ≡ most_steps
    → (nat_le 0 p && nat_lt p (0 + most_steps) && is_flagged flags p) ≡ is_flagged flags p
below_last flags p whole = grind (arith, nat_tests, get_or_past)

-- a position is in the set of the flags where its flag stands
pub is_taken_in-flagged :
    (flags : List Bool) (p : ℕ)
    → AreFlags flags
    → is_taken_in (flagged flags) p ≡ is_flagged flags p
unfolding flagged
is_taken_in-flagged flags p kept =
    contains-from_list_nat _ p
    ∙ list_any-filter (is_flagged flags) 0 most_steps p
    ∙ below_last flags p kept.whole

-- the flags of the set that flags represent are these flags
pub flags_of-flagged : (flags : List Bool) → AreFlags flags → flags_of (flagged flags) ≡ flags
unfolding flags_of
flags_of-flagged flags kept =
    sym (fill_by_all (is_taken_in (flagged flags)) flags most_steps false kept.whole
    (λ p below. sym (is_taken_in-flagged flags p kept)))
