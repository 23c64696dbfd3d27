-- A walk through the bytes of a stream, which finds where a prefix is decided.
use Rattle.std.specs.Prelude.{◌≡◌, ℕ, ◌≤◌, ◌<◌, ◌==◌, Bool, true, false, List, [], ◌∷◌, length, take, if◌then◌else◌}
use Rattle.http_messages.specs.Messages.{is_newline, is_told}
use Rattle.http_messages.specs.declared.places.Place.{Place}
use Rattle.http_messages.specs.declared.places.Place.TheVariants.{Before, Within, AfterLf, AfterCr, Told}

-- where one byte leads
abbrev pub next_place : Place → ℕ → Place
next_place Before byte = if is_newline byte then Before else Within
next_place Within byte = if byte == 10 then AfterLf else Within
next_place AfterLf byte = if byte == 10 then Told else (if byte == 13 then AfterCr else Within)
next_place AfterCr byte = if byte == 10 then Told else Within
next_place Told byte = if byte == 10 then Told else (if byte == 13 then AfterCr else Within)

-- where the bytes lead
abbrev pub walk : Place → List ℕ → Place
walk place [] = place
walk place (byte ∷ bytes) = walk (next_place place byte) bytes

-- an empty line stands here
abbrev pub is_told_place : Place → Bool
is_told_place Told = true
is_told_place Before = false
is_told_place Within = false
is_told_place AfterLf = false
is_told_place AfterCr = false

-- the first so many bytes lead to this place, and none of their prefixes is decided
pub record WentThrough (bytes : List ℕ) (n : ℕ) (place : Place) : Type 0 where
  pub leads : walk Before (take n bytes) ≡ place
  pub calm : (k : ℕ) → k ≤ n → is_told (take k bytes) ≡ false

-- the first so many of these bytes are decided, and no shorter prefix is
pub record IsToldAt (bytes : List ℕ) (end : ℕ) : Type 0 where
  pub within : end ≤ length bytes
  pub told : is_told (take end bytes) ≡ true
  pub first : (k : ℕ) → k < end → is_told (take k bytes) ≡ false
