-- Texts of ASCII that are stored inline.
use Rattle.std.proofs.Common.{◌≡◌, ℕ, ◌≤◌, ◌<◌, ◌++◌, true, List, length, take, drop, Decides, refl, arith, length-append, length-drop, replicate, nat_lt, Some, le-leb}
use Rattle.std.specs.Str.{IsAscii, IsUtf8}
use Rattle.std.proofs.Math.Seq.{take-append_seam, drop-append_seam}
use Rattle.std.proofs.lemmas.List.{drop-replicate, length-replicate}
use Rattle.std.proofs.lemmas.Bool.Decides.{Decides-by_and, Decides-like, Decides-ltb}
use Rattle.std.proofs.lemmas.Str.{IsUtf8-from_ascii}
use Rattle.std.proofs.lemmas.Str.Ascii.{IsAscii-from_all, All-from_ascii}
use Rattle.allotment.specs.Short.{is_ascii, is_short, IsPadded}
use Rattle.allotment.specs.Texts.{keep_if}
use Rattle.allotment.proofs.TestLemmas.{and_make, keep_if_yes}

-- the test of a text says whether each byte is ASCII
pub is_ascii-Decides : (text : List ℕ) → Decides (is_ascii text) (IsAscii text)
is_ascii-Decides text =
    Decides-like (is_ascii text) (IsAscii-from_all text) (All-from_ascii text)
    (Decides-by_and (λ byte. nat_lt byte 128) (λ byte. byte < 128) is_ascii (λ byte. Decides-ltb byte 128) refl (λ _ _. refl) text)

-- ASCII is UTF-8
pub is_utf8 : (text : List ℕ) → is_ascii text ≡ true → IsUtf8 text
is_utf8 text e = IsUtf8-from_ascii text ((is_ascii-Decides text).0 e)

-- a text that was written over the first of so many zeros is padded by the others
pub is_padded : (most : ℕ) (text kept : List ℕ) → kept ≡ text → length text ≤ most → IsAscii text
    → IsPadded most (length text) (kept ++ drop (length text) (replicate most 0))
is_padded most text kept e within ascii =
    grind (
      arith,
      length-append,
      length-drop,
      length-replicate,
      drop-append_seam,
      drop-replicate,
      take-append_seam,
      is_ascii-Decides,
    )

-- a text that was written over so many zeros is kept as it was
pub keep_if-is_short : (most : ℕ) (text kept rest : List ℕ) → kept ≡ text → length text ≤ most → IsAscii text
    → Some (take (length text) (kept ++ rest)) ≡ keep_if (is_short most) text
keep_if-is_short most text kept rest e within ascii =
    grind (arith, and_make, le-leb, is_ascii-Decides, take-append_seam, keep_if_yes)
