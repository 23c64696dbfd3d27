-- Bytes that are text, and bytes that are none. For the route of a target.
use Rattle.std.proofs.Common.{refl, ◌≡◌, ℕ, Bool, true, false, List}
use Rattle.std.specs.Str.{IsUtf8, is_utf8}
use Rattle.std.proofs.lemmas.Str.{IsUtf8-from_is_utf8}

-- the test for UTF-8 refuses bytes that are not UTF-8
pub not_utf8 : (bytes : List ℕ) → (IsUtf8 bytes → ⊥) → is_utf8 bytes ≡ false
not_utf8 bytes other = go (is_utf8 bytes) refl
  where
    go : (b : Bool) → is_utf8 bytes ≡ b → b ≡ false
    go true is = absurd (other (IsUtf8-from_is_utf8 bytes is))
    go false is = refl
