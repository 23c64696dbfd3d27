-- What follows a name in a text, where the text is looked through byte by byte, and what stands before a place.
use Rattle.std.proofs.Common.{◌≡◌, ◌<◌, ◌≤◌, ◌+◌, ℕ, zero, suc, Bool, true, false, cond, List, [], ◌∷◌, Some, None, add-one, arith, bytes_eq, drop, length, nat_lt, not, position, refl, take}
use Rattle.std.proofs.lemmas.Bool.{ltb-false}
use Rattle.std.proofs.lemmas.List.Sums.{prefix_len-le-length}
use Rattle.std.specs.List.{position_or_len}
use Rattle.std.specs.Option.{unwrap_or}
use Rattle.http_live.specs.Requests.{after_name}

-- where the name is not, it is looked for from the next byte on
pub after_name-missed : (name text : List ℕ) (at : ℕ) → at < length text
    → bytes_eq (take (length name) (drop at text)) name ≡ false
    → after_name name (drop (at + 1) text) ≡ after_name name (drop at text)
after_name-missed name text at within missed = rw add-one (next name text at within missed)
  where
    next : (name text : List ℕ) (at : ℕ) → at < length text → bytes_eq (take (length name) (drop at text)) name ≡ false
        → after_name name (drop (suc at) text) ≡ after_name name (drop at text)
    next name [] at within missed = absurd (omega arith)
    next name (byte ∷ text) zero within missed = rw missed refl
    next name (byte ∷ text) (suc at) within missed = next name text at (omega arith) missed

-- the first place that passes, or the end where none does, is how much stands before it
pub end_is : (p : ℕ → Bool) (xs : List ℕ) → unwrap_or (position p xs) (length xs) ≡ position_or_len p xs
end_is p xs = at (nat_lt (position_or_len p xs) (length xs)) refl
  where
    at : (is : Bool) → nat_lt (position_or_len p xs) (length xs) ≡ is
        → unwrap_or (cond is (Some (position_or_len p xs)) None) (length xs) ≡ position_or_len p xs
    at true is = refl
    at false is =
        let past : length xs ≤ position_or_len p xs = ltb-false _ _ is in
        omega (arith, past, prefix_len-le-length (λ x. not (p x)) xs)

pub end_within : (p : ℕ → Bool) (xs : List ℕ) → unwrap_or (position p xs) (length xs) ≤ length xs
end_within p xs = rw (end_is p xs) (prefix_len-le-length (λ x. not (p x)) xs)
