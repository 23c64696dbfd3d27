-- Texts that are stored inline, padded with zeros.
use Rattle.std.specs.Prelude.{◌≡◌, ℕ, ◌-◌, ◌≤◌, ◌++◌, ◌&&◌, Bool, List, length, take, drop, replicate, nat_lt, nat_le, IsTrue}
use Rattle.std.specs.List.{list_all}
use Rattle.std.proofs.Common.{◌∙◌, ap, sym, arith, take-append-drop, length-take-le}

-- a text of ASCII
abbrev pub is_ascii : List ℕ → Bool
is_ascii text = list_all (λ byte. nat_lt byte 128) text

-- a text of ASCII that has at most so many bytes
abbrev pub is_short : ℕ → List ℕ → Bool
is_short most text = nat_le (length text) most && is_ascii text

-- the text, and zeros up to so many bytes
abbrev pub padded : ℕ → List ℕ → List ℕ
padded most text = text ++ replicate (most - length text) 0

-- of so many bytes the first hold a text of ASCII, and the others are zeros
pub record IsPadded (most len : ℕ) (bytes : List ℕ) : Type 0 where
  pub within : len ≤ most
  pub whole : length bytes ≡ most
  pub zeros : drop len bytes ≡ replicate (most - len) 0
  pub ascii : IsTrue (is_ascii (take len bytes))

-- the text has as many bytes as its length field says
pub length_of : (most len : ℕ) (bytes : List ℕ) → IsPadded most len bytes → length (take len bytes) ≡ len
length_of most len bytes h = length-take-le len bytes (omega (arith, h.within, h.whole))

-- cutting the padded text to its length gives the text
pub padded-take : (most len : ℕ) (bytes : List ℕ) → IsPadded most len bytes → padded most (take len bytes) ≡ bytes
padded-take most len bytes h =
    ap (λ n. take len bytes ++ replicate (most - n) 0) (length_of most len bytes h)
    ∙ ap (λ rest. take len bytes ++ rest) (sym h.zeros) ∙ take-append-drop len bytes
