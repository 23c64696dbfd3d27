-- Words of which one more was made plain. For `plain_words`.
use Rattle.std.proofs.Common.{◌≡◌, ◌∙◌, ◌<◌, ◌||◌, ℕ, Bool, Global, String, List, [], ◌∷◌, ◌++◌, zero, suc, map, take, drop, get_or, set, length, string_bytes, ap, refl, sym, arith}
use Rattle.std.proofs.Math.Bool.{or-false, or_assoc}
use Rattle.std.specs.List.{list_any}
use Rattle.clap.specs.Words.{Text}
use Rattle.command_line.specs.Timing.{is_timed, plain_word}

-- the first words, so many, were made plain, and the others are as they were
abbrev pub ArePlainTo : ℕ → List Text → List (String Global) → Type 0
ArePlainTo at olds words = map string_bytes words ≡ map plain_word (take at olds) ++ drop at olds

-- none of the words is among the first 0
none_taken : (olds : List Text) → take zero olds ≡ []
none_taken [] = refl
none_taken (old ∷ olds) = refl

none_plain : (olds : List Text) → olds ≡ map plain_word (take zero olds) ++ drop zero olds
none_plain [] = refl
none_plain (old ∷ olds) = refl

-- one more is plain where it was made so
pub plain_next : (words : List (String Global)) (olds : List Text) (at : ℕ) (word new : String Global) → at < length words
    → word ≡ get_or words at word → string_bytes new ≡ plain_word (string_bytes word) → ArePlainTo at olds words
    → ArePlainTo (suc at) olds (set words at new)
plain_next [] olds at word new within is made plain = absurd (omega (arith, within))
plain_next (w ∷ words) [] zero word new within is made plain = cc
plain_next (w ∷ words) [] (suc at) word new within is made plain = cc
plain_next (w ∷ words) (old ∷ olds) zero word new within is made plain =
    let same : string_bytes w ≡ old = cc in
    let others : map string_bytes words ≡ olds = cc in
    ap (λ (t : Text). t ∷ map string_bytes words) (made ∙ ap (λ (s : String Global). plain_word (string_bytes s)) is ∙ ap plain_word same)
    ∙ ap (λ (ts : List Text). plain_word old ∷ ts) (others ∙ none_plain olds)
plain_next (w ∷ words) (old ∷ olds) (suc at) word new within is made plain =
    let same : string_bytes w ≡ plain_word old = cc in
    let others : ArePlainTo at olds words = cc in
    ap (λ (t : Text). t ∷ map string_bytes (set words at new)) same
    ∙ ap (λ (ts : List Text). plain_word old ∷ ts) (plain_next words olds at word new (omega (arith, within)) is made others)

-- one of the words so far asked for times if one of those before did, or if this one does
pub times_next : (words : List (String Global)) (olds : List Text) (at : ℕ) (word : String Global) → at < length words
    → word ≡ get_or words at word → ArePlainTo at olds words
    → (list_any is_timed (take at olds) || is_timed (string_bytes word)) ≡ list_any is_timed (take (suc at) olds)
times_next [] olds at word within is plain = absurd (omega (arith, within))
times_next (w ∷ words) [] zero word within is plain = cc
times_next (w ∷ words) [] (suc at) word within is plain = cc
times_next (w ∷ words) (old ∷ olds) zero word within is plain =
    let same : string_bytes w ≡ old = cc in
    let alone : (is_timed old || list_any is_timed (take zero olds)) ≡ is_timed old =
    ap (λ (ts : List Text). is_timed old || list_any is_timed ts) (none_taken olds) ∙ or-false (is_timed old) in
    ap (λ (s : String Global). is_timed (string_bytes s)) is ∙ ap is_timed same ∙ sym alone
times_next (w ∷ words) (old ∷ olds) (suc at) word within is plain =
    let others : ArePlainTo at olds words = cc in
    or_assoc (is_timed old) (list_any is_timed (take at olds)) (is_timed (string_bytes word))
    ∙ ap (λ (v : Bool). is_timed old || v) (times_next words olds at word (omega (arith, within)) is others)
