-- Words that are looked through one after another, for the functions of `asking` and `timing`.
use Rattle.std.proofs.Common.{◌≡◌, ◌∙◌, ◌<◌, ◌≤◌, ◌+◌, ℕ, Bool, Global, String, List, [], ◌∷◌, ◌++◌, suc, true, false, not, cond, nat_lt, Some, None, map, take, drop, get_or, length, string_bytes, ap, sym, refl, arith, append_assoc}
use Rattle.std.proofs.Math.Seq.{drop-cons}
use Rattle.std.proofs.lemmas.List.{map-append, map_more}
use Rattle.std.proofs.lemmas.Bool.Decides.{nat_tests}
use Rattle.std.specs.List.{position, position_or_len}
use Rattle.clap.specs.Words.{Text}

-- the texts of the words from a place on begin with that of the word there
pub texts_from : (words : List (String Global)) (i : ℕ) (word : String Global) → i < length words → word ≡ get_or words i word
    → map string_bytes (drop i words) ≡ string_bytes word ∷ map string_bytes (drop (i + 1) words)
texts_from words i word within is =
    let next : i + 1 ≡ suc i = omega arith in
    ap (map string_bytes) (drop-cons words i word (omega arith))
    ∙ ap (λ w. string_bytes w ∷ map string_bytes (drop (suc i) words)) (sym is)
    ∙ ap (λ n. string_bytes word ∷ map string_bytes (drop n words)) (sym next)

-- the texts of the words up to and with a place end with that of the word there
texts_with : (words : List (String Global)) (i : ℕ) (word : String Global) → i < length words → word ≡ get_or words i word
    → map string_bytes (take (i + 1) words) ≡ map string_bytes (take i words) ++ string_bytes word ∷ []
texts_with words i word within is =
    map_more string_bytes words i word within
    ∙ ap (λ (w : String Global). map string_bytes (take i words) ++ string_bytes w ∷ []) (sym is)

-- a copy of one more word is added to a list that has those so far
pub word_added : (words old new start : List (String Global)) (i : ℕ) (word copy : String Global) → i < length words → word ≡ get_or words i word
    → string_bytes copy ≡ string_bytes word → new ≡ old ++ copy ∷ []
    → map string_bytes old ≡ map string_bytes start ++ map string_bytes (take i words)
    → map string_bytes new ≡ map string_bytes start ++ map string_bytes (take (i + 1) words)
word_added words old new start i word copy within is copied pushed so_far =
    ap (map string_bytes) pushed
    ∙ map-append string_bytes old (copy ∷ [])
    ∙ ap (λ (z : List Text). z ++ string_bytes copy ∷ []) so_far
    ∙ append_assoc (map string_bytes start) (map string_bytes (take i words)) (string_bytes copy ∷ [])
    ∙ ap (λ (t : Text). map string_bytes start ++ (map string_bytes (take i words) ++ t ∷ [])) copied
    ∙ ap (λ (z : List Text). map string_bytes start ++ z) (sym (texts_with words i word within is))

module _ (p : Text → Bool) where
  -- the first place at which a word passes is that of the texts
  first_same : (words : List (String Global)) → position_or_len (λ w. p (string_bytes w)) words ≡ position_or_len p (map string_bytes words)
  first_same [] = refl
  first_same (w ∷ words) = ap (λ n. cond (not (p (string_bytes w))) (1 + n) 0) (first_same words)

  first_within : (words : List (String Global)) → position_or_len (λ w. p (string_bytes w)) words ≤ length words
  first_within [] = omega arith
  first_within (w ∷ words) = go (not (p (string_bytes w))) (first_within words)
    where
      go : (b : Bool) → position_or_len (λ w. p (string_bytes w)) words ≤ length words
          → cond b (1 + position_or_len (λ w. p (string_bytes w)) words) 0 ≤ length (w ∷ words)
      go true within = omega (arith, within)
      go false within = omega arith

  -- where a word was found, or none was, that many stand before it
  pub found_at : (words : List (String Global)) (at : ℕ) → Some at ≡ position (λ w. p (string_bytes w)) words
      → (at ≡ position_or_len p (map string_bytes words)) × (at ≤ length words)
  found_at words at is = go (nat_lt first (length words)) is
    where
      first : ℕ
      first = position_or_len (λ w. p (string_bytes w)) words

      go : (b : Bool) → Some at ≡ cond b (Some first) None → (at ≡ position_or_len p (map string_bytes words)) × (at ≤ length words)
      go true is = let same : at ≡ first = cc in (same ∙ first_same words, omega (arith, same, first_within words))
      go false is = cc

  pub found_none : (words : List (String Global)) → None ≡ position (λ w. p (string_bytes w)) words
      → length words ≡ position_or_len p (map string_bytes words)
  found_none words is = go (nat_lt first (length words)) refl is
    where
      first : ℕ
      first = position_or_len (λ w. p (string_bytes w)) words

      go : (b : Bool) → nat_lt first (length words) ≡ b → None ≡ cond b (Some first) None → length words ≡ position_or_len p (map string_bytes words)
      go true e is = cc
      go false e is =
          let past : length words ≤ first = grind (arith, nat_tests, e) in
          let same : length words ≡ first = omega (arith, past, first_within words) in
          same ∙ first_same words
