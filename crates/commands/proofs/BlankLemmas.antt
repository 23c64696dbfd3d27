-- The words of a reply contain no blank, so cutting its line at blanks gives the words back. For the reader of lines.
use Rattle.std.specs.List.{list_all}
use Rattle.std.specs.Str.Parse.{AllDigits}
use Rattle.std.proofs.Common.{refl, arith, eq-eqb, ◌≡◌, ℕ, ◌<◌, ◌^◌, ◌==◌, not, Bool, true, List, [], ◌∷◌, ◌++◌, decimal, IsTrue}
use Rattle.std.proofs.lemmas.Bool.{and_from, and_parts, not-true}
use Rattle.std.proofs.lemmas.Bool.Decides.{nat_tests}
use Rattle.std.proofs.lemmas.Fmt.{decimal_is_IsNumeral}
use Rattle.std.proofs.lemmas.List.Splits.{slice_split-cons_yes, slice_split-cons_no}
use Rattle.std.proofs.lemmas.Str.Parse.{digit_from_value}
use Rattle.allotment.specs.Limits.{is_between}
use Rattle.allotment.specs.Texts.{parts, joined, blank}
use Rattle.commands.specs.declared.items.Cause.{Cause}
use Rattle.commands.specs.declared.items.Item.{Item}
use Rattle.commands.specs.declared.items.Phase.{Phase}
use Rattle.commands.specs.declared.replies.Reply.{Reply}
use Rattle.commands.specs.Names.{is_batch_byte, is_batch_name}
use Rattle.commands.specs.Texts.{is_accepted, is_item, is_option, is_state, item_text, step_text, turn_letter}
use Rattle.commands.specs.Readings.{reply_words, state_words}
use Rattle.commands.proofs.NumberLemmas.{between_parts}

-- the text has no such byte
abbrev pub lacks : ℕ → List ℕ → Bool
lacks byte text = list_all (λ b. not (b == byte)) text

-- the text has no blank
abbrev pub has_no_blank : List ℕ → Bool
has_no_blank text = lacks 32 text

-- two texts without blanks are joined without one
append_no_blank : (x y : List ℕ)
    → has_no_blank x ≡ true → has_no_blank y ≡ true → has_no_blank (x ++ y) ≡ true
append_no_blank [] y front back = back
append_no_blank (b ∷ x) y front back =
    let both = and_parts (not (b == 32)) (has_no_blank x) front in
    and_from _ _ both.0 (append_no_blank x y both.1 back)

-- digits contain no byte below them
digits_lack : (byte : ℕ) → byte < 48 → (ds : List ℕ) → AllDigits 10 ds → lacks byte ds ≡ true
digits_lack byte below [] digits = refl
digits_lack byte below (d ∷ ds) digits = grind (arith, digit_from_value, nat_tests, and_from, digits_lack byte below ds)

-- the text of a number up to a limit contains no byte below the digits
pub number_lacks : (byte low high n : ℕ) → byte < 48 → high < 2 ^ 64
    → IsTrue (is_between low high n) → lacks byte (decimal n) ≡ true
number_lacks byte low high n below small within =
    let limits = between_parts low high n within in
    digits_lack byte below (decimal n) (decimal_is_IsNumeral n (omega arith)).0.1

-- the text of a number has no blank
number_no_blank : (low high n : ℕ) → high < 2 ^ 64
    → IsTrue (is_between low high n) → has_no_blank (decimal n) ≡ true
number_no_blank low high n small within = number_lacks 32 low high n (omega arith) small within

-- the bytes of a batch's name are no blanks
name_bytes_no_blank : (bytes : List ℕ)
    → list_all is_batch_byte bytes ≡ true → has_no_blank bytes ≡ true
name_bytes_no_blank [] good = refl
name_bytes_no_blank (b ∷ bytes) good = grind (arith, and_parts, nat_tests, and_from, name_bytes_no_blank bytes)

-- a batch's name has no blank
name_no_blank : (name : List ℕ) → IsTrue (is_batch_name name) → has_no_blank name ≡ true
name_no_blank name good = grind (arith, name_bytes_no_blank, and_parts)

-- a step and its option have no blank
step_no_blank : (step option : ℕ)
    → IsTrue (is_option step option) → has_no_blank (step_text step option) ≡ true
step_no_blank step option good = grind (arith, and_parts, append_no_blank, number_no_blank)

-- the letter of a cause is no blank
letter_no_blank : (cause : Cause) → has_no_blank (turn_letter cause) ≡ true
letter_no_blank cause = grind arith

-- an item has no blank
item_no_blank : (item : Item) → IsTrue (is_item item) → has_no_blank (item_text item) ≡ true
item_no_blank item good = grind (arith, step_no_blank, append_no_blank, number_no_blank, letter_no_blank)

-- the words of where a journey is have no blanks
state_no_blank : (position : ℕ) (phase : Phase) → IsTrue (is_state position phase)
    → list_all has_no_blank (state_words position phase) ≡ true
state_no_blank position phase good = grind (arith, and_from, number_no_blank, and_parts)

-- the words of an accepted reply have no blanks
pub words_no_blank : (reply : Reply)
    → IsTrue (is_accepted reply) → list_all has_no_blank (reply_words reply) ≡ true
words_no_blank reply good = search (arith, and_parts, and_from, name_no_blank, number_no_blank, item_no_blank, state_no_blank)

-- a text without blanks is cut into itself
parts_alone : (text : List ℕ) → has_no_blank text ≡ true → parts blank text ≡ text ∷ []
parts_alone [] none = refl
parts_alone (b ∷ text) none = grind (arith, and_parts, slice_split-cons_no, not-true, parts_alone text)

-- a text is cut at its first blank
parts_first : (text more : List ℕ) → has_no_blank text ≡ true
    → parts blank (text ++ blank ∷ more) ≡ text ∷ parts blank more
parts_first [] more none = slice_split-cons_yes (λ x. x == 32) 32 more (eq-eqb 32 32 refl)
parts_first (b ∷ text) more none = grind (arith, and_parts, slice_split-cons_no, not-true, parts_first text more)

-- cutting words without blanks, joined by blanks, gives the words back
pub parts_joined : (word : List ℕ) (words : List (List ℕ))
    → list_all has_no_blank (word ∷ words) ≡ true
    → parts blank (joined blank (word ∷ words)) ≡ word ∷ words
parts_joined word [] none = parts_alone word (and_parts (has_no_blank word) true none).0
parts_joined word (next ∷ words) none = grind (arith, and_parts, parts_first, parts_joined next words)
