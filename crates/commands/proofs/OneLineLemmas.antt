-- No two replies have the same line. For the law of lines, and for the reader of them.
use Rattle.std.proofs.Common.{◌∙◌, sym, ap, refl, get_or, drop, arith, ◌≡◌, ℕ, ◌<◌, ◌^◌, ◌==◌, ◌&&◌, not, if◌then◌else◌, true, false, List, [], ◌∷◌, ◌++◌, length, decimal, Option, Some, None, IsTrue}
use Rattle.std.proofs.lemmas.Bool.{and_parts}
use Rattle.std.proofs.lemmas.Bool.Decides.{nat_tests}
use Rattle.std.proofs.lemmas.Fmt.{decimal_injective}
use Rattle.std.proofs.lemmas.List.{same_from_push}
use Rattle.allotment.specs.Limits.{is_between}
use Rattle.allotment.specs.Texts.{parts, blank}
use Rattle.plan.specs.Limits.{most_options, most_steps}
use Rattle.commands.specs.Limits.{most_events}
use Rattle.commands.specs.declared.items.Cause.{Cause}
use Rattle.commands.specs.declared.items.Cause.TheVariants as turn
use Rattle.commands.specs.declared.items.Item.{Item}
use Rattle.commands.specs.declared.items.Phase.{Phase}
use Rattle.commands.specs.declared.replies.Reply.{Reply}
use Rattle.commands.specs.declared.replies.Reply.TheVariants.{Loaded, Begun, Moved, Refused}
use Rattle.commands.specs.Texts.{is_accepted, is_journey, is_item, is_position, is_option, is_state, item_text, step_text, turn_letter, FindsReply, ReadsReply, HaveOneLine}
use Rattle.commands.specs.Readings.{reply_words, state_words}
use Rattle.commands.proofs.BlankLemmas.{lacks, number_lacks}
use Rattle.commands.proofs.LineLemmas.{parts_line}
use Rattle.commands.proofs.NumberLemmas.{between_parts}

-- numbers within limits with the same text are equal
number_once : (low high m n : ℕ) → high < 2 ^ 64
    → IsTrue (is_between low high m) → IsTrue (is_between low high n) → decimal m ≡ decimal n → m ≡ n
number_once low high m n small first other same = grind (arith, between_parts, decimal_injective)

-- a byte that is no dot is not a dot
dot_here : (b : ℕ) → not (b == 46) ≡ true → b ≡ 46 → ⊥
dot_here b other same = grind (arith, nat_tests)

-- equal texts that are cut at their first dot have equal parts
cut_once : (x y u v : List ℕ) → lacks 46 x ≡ true → lacks 46 u ≡ true
    → x ++ 46 ∷ y ≡ u ++ 46 ∷ v → (x ≡ u) × (y ≡ v)
cut_once [] y [] v left right same = (refl, cc)
cut_once [] y (b ∷ u) v left right same = grind (arith, dot_here, and_parts, lacks)
cut_once (a ∷ x) y [] v left right same = grind (arith, dot_here, and_parts, lacks)
cut_once (a ∷ x) y (b ∷ u) v left right same =
    let in_x = and_parts (not (a == 46)) (lacks 46 x) left in
    let in_u = and_parts (not (b == 46)) (lacks 46 u) right in
    let later = cut_once x y u v in_x.1 in_u.1 cc in
    (cc, later.1)

-- a step and an option with the same text are equal
step_once : (s o t p : ℕ) → IsTrue (is_option s o) → IsTrue (is_option t p)
    → step_text s o ≡ step_text t p → (s ≡ t) × (o ≡ p)
step_once s o t p first other same =
    let one = and_parts (is_between 1 most_steps s) (is_between 1 most_options o) first in
    let two = and_parts (is_between 1 most_steps t) (is_between 1 most_options p) other in
    let in_s = number_lacks 46 1 most_steps s (omega arith) (omega arith) one.0 in
    let in_t = number_lacks 46 1 most_steps t (omega arith) (omega arith) two.0 in
    let cut = cut_once (decimal s) (decimal o) (decimal t) (decimal p) in_s in_t same in (
      number_once 1 most_steps s t (omega arith) one.0 two.0 cut.0,
      number_once 1 most_options o p (omega arith) one.1 two.1 cut.1,
    )

-- the letter of a cause
letter_of : Cause → ℕ
letter_of turn.Stop = 115
letter_of turn.Refused = 114
letter_of turn.Asked = 97

-- the cause with this letter
cause_of : ℕ → Cause
cause_of letter =
    if letter == 115 then turn.Stop else (if letter == 114 then turn.Refused else turn.Asked)

-- the letter is the text of the cause
letter_alone : (cause : Cause) → turn_letter cause ≡ letter_of cause ∷ []
unfolding letter_of
letter_alone cause = grind arith

-- a cause is the one with its letter
cause_back : (cause : Cause) → cause_of (letter_of cause) ≡ cause
unfolding letter_of cause_of
cause_back cause = grind arith

-- turns with the same text are equal
turn_once : (p q : ℕ) (a b : Cause) → IsTrue (is_position p) → IsTrue (is_position q)
    → decimal p ++ turn_letter a ≡ decimal q ++ turn_letter b → (p ≡ q) × (a ≡ b)
turn_once p q a b first other same = grind (arith, letter_alone, same_from_push, number_once, cause_back)

-- no text begins with two bytes
apart : (a b : ℕ) (xs ys : List ℕ) → (a == b) ≡ false → a ∷ xs ≡ b ∷ ys → ⊥
apart a b xs ys other same = grind (arith, nat_tests)

-- items with the same text are equal
item_once : (x y : Item) → IsTrue (is_item x) → IsTrue (is_item y)
    → item_text x ≡ item_text y → x ≡ y
item_once x y first other same = grind (arith, step_once, apart, turn_once, number_once)

-- the word at this place, which is empty past the end
abbrev word_of : ℕ → List (List ℕ) → List ℕ
word_of i words = get_or words i []

-- how long the first word is
abbrev first_length : List (List ℕ) → ℕ
first_length words = length (word_of 0 words)

-- states with the same text are equal: the words for the four phases differ in length
state_once : (p q : ℕ) (x y : Phase) → IsTrue (is_state p x) → IsTrue (is_state q y)
    → state_words p x ≡ state_words q y → (p ≡ q) × (x ≡ y)
state_once p q x y first other same = search (arith, number_once, and_parts, nat_tests)

-- where a journey is takes words
state_some : (p : ℕ) (x : Phase) → [] ≡ state_words p x → ⊥
state_some p x same = grind arith

-- accepted replies with the same words are equal
words_once : (x y : Reply) → IsTrue (is_accepted x) → IsTrue (is_accepted y)
    → reply_words x ≡ reply_words y → x ≡ y
words_once (Loaded a m) (Loaded b n) first other same = grind (arith, and_parts, number_once)
words_once (Loaded a m) (Begun j) first other same = absurd (omega (arith, ap first_length same))
words_once (Loaded a m) (Moved j e q y) first other same =
    absurd (omega (arith, ap first_length same))
words_once (Begun i) (Loaded b n) first other same = absurd (omega (arith, ap first_length same))
words_once (Begun i) (Begun j) first other same = grind (arith, number_once)
words_once (Begun i) (Moved j e q y) first other same = absurd (state_some q y (ap (drop 3) same))
words_once (Moved i d p x) (Loaded b n) first other same =
    absurd (omega (arith, ap first_length same))
words_once (Moved i d p x) (Begun j) first other same =
    absurd (state_some p x (sym (ap (drop 3) same)))
words_once (Moved i d p x) (Moved j e q y) first other same =
    let most = and_parts (is_journey i && is_item d) (is_state p x) first in
    let one = and_parts (is_journey i) (is_item d) most.0 in
    let more = and_parts (is_journey j && is_item e) (is_state q y) other in
    let two = and_parts (is_journey j) (is_item e) more.0 in
    let id = number_once 1 most_events i j (omega arith) one.0 two.0 (ap (word_of 1) same) in
    let item = item_once d e one.1 two.1 (ap (word_of 2) same) in
    let state = state_once p q x y most.1 more.1 (ap (drop 3) same) in cc
words_once (Refused refusal) y first other same = cc
words_once x (Refused refusal) first other same = cc

-- accepted replies with the same line are equal
pub line_once : HaveOneLine
line_once x y first other same =
    words_once x y first other
    (sym (parts_line x first) ∙ ap (parts blank) same ∙ parts_line y other)

-- a reply that is found by a line is each accepted reply with this line
pub found_is_read : (text : List ℕ) (r : Option Reply) → FindsReply text r → ReadsReply text r
found_is_read text None none reply good spelled = absurd (none reply good spelled)
found_is_read text (Some found) is reply good spelled =
    ap (λ one. Some one) (line_once found reply is.accepted good (sym is.spelled ∙ spelled))
