-- The meaning of a line, by what is kept of it, and the number that a word spells. For the order of a line.
use Rattle.std.proofs.Common.{◌≡◌, ◌≢◌, refl, ℕ, List, [], ◌∷◌, Bool, true, false, length, arith, None, Err, nat_le}
use Rattle.std.specs.Str.{IsUtf8, is_utf8}
use Rattle.std.proofs.lemmas.Str.{IsUtf8-from_is_utf8, is_utf8-from_IsUtf8}
use Rattle.std.specs.Borrow.{Bor}
use Rattle.commands.specs.Readings.{texts_of}
use Rattle.commands.specs.declared.replies.Refusal.TheVariants.{BadBody}
use Rattle.recovery.specs.Lines.{Meaning, longest_line, meaning_in, request_of_words, text_meaning}
use Rattle.recovery.specs.Reading.{Keeps}
use Rattle.recovery.specs.declared.runs.Line.{Line}

-- Lines.

-- a line that is not long keeps its text, which is short
kept_text : (line : Line) (text : List ℕ)
    → line.is_long ≡ false
    → Keeps line text
    → (nat_le (length text) longest_line ≡ true) × (line.kept.items ≡ text)
kept_text line text short kept = grind arith

-- a text that is not UTF-8 fails the test for UTF-8
not_utf8 : (text : List ℕ) → (IsUtf8 text → ⊥) → is_utf8 text ≡ false
not_utf8 text other = go (is_utf8 text) refl
  where
    go : (b : Bool) → is_utf8 text ≡ b → b ≡ false
    go true is = absurd (other (IsUtf8-from_is_utf8 text is))
    go false is = refl

-- a line has the meaning of its text
pub means_as_text : (line : Line) (read text : List ℕ) (meaning : Meaning)
    → line.is_long ≡ false
    → read ≡ line.kept.items
    → IsUtf8 read
    → meaning ≡ text_meaning read → Keeps line text → meaning ≡ meaning_in text
means_as_text line read text meaning short is utf8 means kept = grind (arith, kept_text, is_utf8-from_IsUtf8)

-- a line that is not UTF-8 is malformed
pub means_no_text : (line : Line) (read text : List ℕ)
    → line.is_long ≡ false
    → read ≡ line.kept.items
    → (IsUtf8 read → ⊥)
    → Keeps line text → Err BadBody ≡ meaning_in text
means_no_text line read text short is other kept = grind (arith, kept_text, not_utf8)

-- Words.

-- fewer than two words, and more than four, make no request
pub other_words : (words : List (Bor (List ℕ))) → length words ≢ 2 → length words ≢ 3 → length words ≢ 4
    → None ≡ request_of_words (texts_of words)
other_words [] two three four = refl
other_words (a ∷ []) two three four = refl
other_words (a ∷ b ∷ []) two three four = absurd (omega arith)
other_words (a ∷ b ∷ d ∷ []) two three four = absurd (omega arith)
other_words (a ∷ b ∷ d ∷ e ∷ []) two three four = absurd (omega arith)
other_words (a ∷ b ∷ d ∷ e ∷ f ∷ words) two three four = refl
