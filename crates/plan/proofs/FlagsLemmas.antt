-- What the calls of `Marks` do to the flags, and so to the set of positions. For none, has, add and cut.
use Rattle.std.proofs.Common.{◌≡◌, ℕ, ◌+◌, ◌≤◌, ◌<◌, min, ◌==◌, ◌&&◌, ◌||◌, ◌∙◌, Bool, true, false, List, length, replicate, set, nat_le, ap, sym, arith, length-set, length-append, length-drop, length-take-le, get_or-set_same, get_or-set_other, refl}
use Rattle.std.proofs.lemmas.Bool.Decides.{nat_tests}
use Rattle.std.proofs.lemmas.Bool.{and_right}
use borrow.Rule.Slice.PartMut.{put_mid}
use Rattle.std.proofs.lemmas.List.{get_or_past, get_or-replicate, length-replicate, get_or_append_left, get_or-append_right, get_or-take}
use Rattle.allotment.specs.Limits.{is_between}
use Rattle.plan.specs.Limits.{most_steps}
use Rattle.plan.specs.Marks.{is_taken_in, last_mark, AreInRange}
use Rattle.plan.specs.Flags.{is_flagged, flagged, AreFlags, is_taken_in-flagged}

-- where all flags are false, none stands
is_flagged-replicate : (n p : ℕ) → is_flagged (replicate n false) p ≡ false
is_flagged-replicate n p = grind (arith, length-replicate, get_or_past, get_or-replicate)

-- where no flag stands, the set is empty
pub is_taken_in-replicate : (p : ℕ) → is_taken_in (flagged (replicate most_steps false)) p ≡ false
is_taken_in-replicate p =
    is_taken_in-flagged _ p (record { whole = refl; start = refl }) ∙ is_flagged-replicate most_steps p

-- a flag that is raised stands, and the others are as they were
is_flagged-set :
    (flags : List Bool) (p q : ℕ)
    → p < length flags
    → is_flagged (set flags p true) q ≡ ((q == p) || is_flagged flags q)
is_flagged-set flags p q below = grind (arith, nat_tests, get_or-set_same, get_or-set_other)

-- raising a flag above 0 leaves as many flags, and none at 0
pub AreFlags-set :
    (flags : List Bool) (p : ℕ) (b : Bool)
    → AreFlags flags
    → 1 ≤ p
    → AreFlags (set flags p b)
AreFlags-set flags p b kept low = record {
  whole = length-set flags p b ∙ kept.whole;
  start = get_or-set_other flags p 0 b false (λ same. absurd (omega arith)) ∙ kept.start;
}

-- raising the flag of p adds p to the set
pub is_taken_in-set :
    (flags : List Bool) (p q : ℕ)
    → AreFlags flags
    → 1 ≤ p
    → p ≤ last_mark
    → is_taken_in (flagged (set flags p true)) q ≡ ((q == p) || is_taken_in (flagged flags) q)
is_taken_in-set flags p q kept low high =
    is_taken_in-flagged _ q (AreFlags-set flags p true kept low)
    ∙ is_flagged-set flags p q (omega (arith, kept.whole))
    ∙ ap (λ b. (q == p) || b) (sym (is_taken_in-flagged flags q kept))

-- a position whose flag stands is from 1 to the last mark
in_range :
    (flags : List Bool) (p : ℕ)
    → AreFlags flags
    → is_flagged flags p ≡ true
    → is_between 1 last_mark p ≡ true
in_range flags p kept stands = grind (arith, nat_tests, get_or_past, kept.whole, kept.start)

-- the set has only positions from 1 to the last mark
pub AreInRange-flagged : (flags : List Bool) → AreFlags flags → AreInRange (flagged flags)
AreInRange-flagged flags kept = λ p taken.
    in_range flags p kept (sym (is_taken_in-flagged flags p kept) ∙ taken)

-- where the flags from the one after pos on are taken down, the others are as they were
is_flagged-cut : (flags : List Bool) (pos above k q : ℕ) → length flags ≡ most_steps → above ≡ min (pos + 1) most_steps → above + k ≡ most_steps
    → is_flagged (put_mid above k flags (replicate k false)) q ≡ (nat_le q pos && is_flagged flags q)
is_flagged-cut flags pos above k q whole at rest =
    grind (arith, nat_tests, get_or_past, get_or-replicate, length-replicate, length-take-le, get_or_append_left, get_or-append_right, get_or-take, length-append, length-drop)

-- there are as many, and none stands at 0
pub AreFlags-cut : (flags : List Bool) (pos above k : ℕ) → AreFlags flags → above ≡ min (pos + 1) most_steps → above + k ≡ most_steps
    → AreFlags (put_mid above k flags (replicate k false))
AreFlags-cut flags pos above k kept at rest = record {
  whole = grind (arith, kept.whole, length-take-le, length-append, length-replicate, length-drop);
  start = is_flagged-cut flags pos above k 0 kept.whole at rest ∙ and_right _ _ kept.start;
}

-- so the set has what it had up to pos
pub is_taken_in-cut : (flags : List Bool) (pos above k q : ℕ) → AreFlags flags → above ≡ min (pos + 1) most_steps → above + k ≡ most_steps
    → is_taken_in (flagged (put_mid above k flags (replicate k false))) q ≡ (nat_le q pos && is_taken_in (flagged flags) q)
is_taken_in-cut flags pos above k q kept at rest =
    is_taken_in-flagged _ q (AreFlags-cut flags pos above k kept at rest)
    ∙ is_flagged-cut flags pos above k q kept.whole at rest
    ∙ ap (λ b. nat_le q pos && b) (sym (is_taken_in-flagged flags q kept))
