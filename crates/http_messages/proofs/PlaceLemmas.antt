-- The walk through a stream finds the shortest decided prefix. For look and decided_front.
use Rattle.std.proofs.Common.{◌≡◌, sym, refl, ℕ, ◌+◌, ◌<◌, Bool, true, false, ◌||◌, List, [], ◌∷◌, length, take, get_or, arith, inl, inr, ◌==◌}
use Rattle.std.proofs.lemmas.Bool.{cases_lt, or_right, or_left, or_from}
use Rattle.std.proofs.lemmas.List.{take_more, length-take-le}
use Rattle.http_messages.specs.Heads.{most_head_bytes}
use Rattle.http_messages.specs.Messages.{is_told}
use Rattle.http_messages.specs.Places.{IsToldAt, WentThrough, is_told_place, next_place, walk}
use Rattle.http_messages.specs.declared.places.Place.{Place}
use Rattle.http_messages.specs.declared.places.Place.TheVariants.{Before, Told}
use Rattle.http_messages.proofs.ToldLemmas.{not_empty_line, told_at_end, walk_append}

-- only one place is that of a decided prefix
told_place : (place : Place) → is_told_place place ≡ true → place ≡ Told
told_place place is = grind arith

-- the bytes are decided where the walk ends there, or where they are as many as a head may have
told_here : (bytes : List ℕ) → (is_told_place (walk Before bytes) || length bytes == most_head_bytes) ≡ true
    → is_told bytes ≡ true
told_here bytes is = grind (arith, or_left, told_at_end, told_place, or_right)

-- the bytes are decided nowhere else
not_told : (bytes : List ℕ) → (is_told_place (walk Before bytes) || length bytes == most_head_bytes) ≡ false
    → is_told bytes ≡ false
not_told bytes is = not_told_by (is_told_place (walk Before bytes)) refl is
  where
    not_told_by : (b : Bool) → is_told_place (walk Before bytes) ≡ b → (b || length bytes == most_head_bytes) ≡ false → is_told bytes ≡ false
    not_told_by b at is = search (arith, or_from, not_empty_line)

module _ (bytes : List ℕ) (n : ℕ) (old new : Place) (inside : n < length bytes)
    (went : WentThrough bytes n old) (led : new ≡ next_place old (get_or bytes n 0)) where
  -- what is known of the bytes with one more
  here : (told : Bool) → (is_told_place new || n + 1 == most_head_bytes) ≡ told
      → (is_told_place (walk Before (take (n + 1) bytes)) || length (take (n + 1) bytes) == most_head_bytes) ≡ told
  here told is =
      rw (length-take-le (n + 1) bytes (omega arith), take_more bytes n 0 inside, walk_append Before (take n bytes) (get_or bytes n 0 ∷ []), went.leads, ← led) is

  -- here a prefix is decided, and no shorter one is
  pub told_first : (is_told_place new || n + 1 == most_head_bytes) ≡ true → IsToldAt bytes (n + 1)
  told_first is = record {
    within = omega arith;
    told = told_here (take (n + 1) bytes) (here true is);
    first = λ k less. went.calm k (omega arith);
  }

  -- or none is with one more byte
  pub went_on : (is_told_place new || n + 1 == most_head_bytes) ≡ false → WentThrough bytes (n + 1) new
  went_on is = record {
    leads = rw (take_more bytes n 0 inside, walk_append Before (take n bytes) (get_or bytes n 0 ∷ []), went.leads) (sym led);
    calm = λ k less. elim (cases_lt n k) [
      | inl past ↦ let last : k ≡ n + 1 = omega (arith, past, less) in rw last (not_told (take (n + 1) bytes) (here false is))
      | inr before ↦ went.calm k before
    ];
  }
