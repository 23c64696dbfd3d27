-- A text makes a request exactly if it is the line of that request. For the law of lines.
use Rattle.std.proofs.Common.{◌≡◌, ◌∙◌, ap, sym, subst, refl, ℕ, ◌<◌, ◌^◌, ◌==◌, not, List, [], ◌∷◌, ◌++◌, Bool, true, false, length, drop, take-append-drop, arith, Option, Some, None, Result, Ok, bytes_eq, codes, decimal, nat_le, option_and_then, option_map, IsTrue, if◌then◌else◌}
use Rattle.std.specs.Str.Parse.{digits_value}
use Rattle.std.proofs.lemmas.Bool.{and_from, and_parts, le-leb}
use Rattle.std.proofs.lemmas.Bool.Decides.{nat_tests}
use Rattle.std.proofs.lemmas.List.Splits.{join_with_byte-slice_split}
use Rattle.allotment.specs.Limits.{is_between, is_good_cell, most_places}
use Rattle.allotment.specs.Nights.{night_text}
use Rattle.allotment.specs.Rows.{allotted}
use Rattle.allotment.specs.Texts.{blank, parts, kind_letter, keep_if, number_from, number_in, cell_in, cell_text, places_in}
use Rattle.allotment.specs.declared.cells.Cell.{Cell}
use Rattle.allotment.specs.declared.cells.Row.{Row}
use Rattle.allotment.proofs.LawLemmas.{cell_again, cell_read, is_sound}
use Rattle.allotment.proofs.PlainLemmas.{is_plain, is_plain_byte, letter_plain, code_plain, night_plain}
use Rattle.allotment.proofs.TestLemmas.{keep_if_some, keep_if_yes, same_bytes}
use Rattle.plan.specs.PlanModel.{Planned}
use Rattle.plan.specs.PlanLine.{plan_in}
use Rattle.plan.specs.declared.faults.BadPlan.{BadPlan}
use Rattle.plan.proofs.ReadLemmas.{read_is_spelled}
use Rattle.plan.proofs.SpellLemmas.{spelled_is_read}
use Rattle.commands.specs.Batches.{is_batch, is_good_row}
use Rattle.commands.specs.Limits.{most_events, most_named_position}
use Rattle.commands.specs.Names.{is_batch_name}
use Rattle.commands.specs.Request.{Request, Load, Step, Abort, Save}
use Rattle.commands.specs.Texts.{is_journey, sentence}
use Rattle.commands.specs.declared.replies.Reply.TheVariants.{Loaded}
use Rattle.commands.proofs.BlankLemmas.{has_no_blank, number_lacks, parts_joined, words_no_blank}
use Rattle.recovery.specs.Lines.{IsLineOf, abort_line, abort_of, begin_meaning, begin_word, found_meaning, is_begin, is_named_position, journey_in, load_of, name_in, position_in, request_of_words, row_of, save_line, set_line, step_line, text_meaning}
use Rattle.commands.proofs.SpelledLemmas.{found_number}

-- The words from which something is read.

-- a number that is read from a word is within the limits, and the word is its decimal text
number_read_by : (low high : ℕ) (word : List ℕ) (n : ℕ) (o : Option ℕ) → number_in word ≡ o
    → option_and_then (keep_if (is_between low high)) o ≡ Some n
    → IsTrue (is_between low high n) × (word ≡ decimal n)
number_read_by low high word n None is e = cc
number_read_by low high word n (Some m) is e =
    let kept = keep_if_some (is_between low high) m n e in
    let spelled = keep_if_some (λ k. bytes_eq (decimal k) word) (digits_value 10 word) m is in
    (kept.1, sym (same_bytes (decimal m) word spelled.1) ∙ ap decimal kept.0)

-- the same, for a read in one step
number_read : (low high : ℕ) (word : List ℕ) (n : ℕ) → number_from low high word ≡ Some n
    → IsTrue (is_between low high n) × (word ≡ decimal n)
number_read low high word n e = number_read_by low high word n (number_in word) refl e

-- the decimal text of a number within the limits is read as that number
number_spelled : (low high n : ℕ) → high < 2 ^ 64 → IsTrue (is_between low high n)
    → number_from low high (decimal n) ≡ Some n
number_spelled low high n small within = sym (found_number low high (decimal n) (Some n) small (within, refl))

-- two equal words make the same line, and so do three and four
two_words : (a b x y : List ℕ) → a ≡ x → b ≡ y → sentence (a ∷ b ∷ []) ≡ sentence (x ∷ y ∷ [])
two_words a b x y p q = cc

three_words : (a b d x y z : List ℕ) → a ≡ x → b ≡ y → d ≡ z
    → sentence (a ∷ b ∷ d ∷ []) ≡ sentence (x ∷ y ∷ z ∷ [])
three_words a b d x y z p q r = cc

four_words : (a b d e x y z w : List ℕ) → a ≡ x → b ≡ y → d ≡ z → e ≡ w
    → sentence (a ∷ b ∷ d ∷ e ∷ []) ≡ sentence (x ∷ y ∷ z ∷ w ∷ [])
four_words a b d e x y z w p q r s = cc

-- From the meaning of a text to its line.

-- a step of the journey that a word names
step_read : (verb word : List ℕ) (o : Option ℕ) (request : Request) → verb ≡ codes "step" → journey_in word ≡ o
    → option_map Step o ≡ Some request → IsLineOf (sentence (verb ∷ word ∷ [])) request
step_read verb word o request says is e = grind (arith, number_read, two_words)

-- a save-point of the journey that a word names
save_read : (verb word : List ℕ) (o : Option ℕ) (request : Request) → verb ≡ codes "save" → journey_in word ≡ o
    → option_map Save o ≡ Some request → IsLineOf (sentence (verb ∷ word ∷ [])) request
save_read verb word o request says is e = grind (arith, number_read, two_words)

-- two words make one of these requests
two_read : (verb word : List ℕ) (request : Request) (step save : Bool)
    → bytes_eq verb (codes "step") ≡ step → bytes_eq verb (codes "save") ≡ save
    → (if step then option_map Step (journey_in word) else if save then option_map Save (journey_in word) else None)
    ≡ Some request
    → IsLineOf (sentence (verb ∷ word ∷ [])) request
two_read verb word request step save is other e = search (arith, step_read, same_bytes, save_read)

-- a turn of the journey that one word names, to the position that another names
turn_read : (verb word place : List ℕ) (o p : Option ℕ) (request : Request) → verb ≡ codes "abort"
    → journey_in word ≡ o → position_in place ≡ p
    → abort_of o p ≡ Some request → IsLineOf (sentence (verb ∷ word ∷ place ∷ [])) request
turn_read verb word place o p request says is at e = grind (arith, number_read, and_from, three_words)

-- three words make this request
three_read : (verb word place : List ℕ) (request : Request) (abort : Bool) → bytes_eq verb (codes "abort") ≡ abort
    → (if abort then abort_of (journey_in word) (position_in place) else None) ≡ Some request
    → IsLineOf (sentence (verb ∷ word ∷ place ∷ [])) request
three_read verb word place request abort is e = search (arith, turn_read, same_bytes)

-- one row within its limits is a batch under a good name
one_row_good : (name : List ℕ) (row : Row) → is_batch_name name ≡ true → is_good_row row ≡ true
    → is_batch name (row ∷ []) ≡ true
one_row_good name row named good = grind (arith, and_from)

-- a load of the cell and places that words spell, under the name in another
row_read : (verb name cell places : List ℕ) (n : Option (List ℕ)) (x : Option Cell) (p : Option ℕ) (request : Request)
    → verb ≡ codes "set" → name_in name ≡ n → cell_in cell ≡ x → places_in places ≡ p
    → load_of n (row_of x p) ≡ Some request → IsLineOf (sentence (verb ∷ name ∷ cell ∷ places ∷ [])) request
row_read verb name cell places n x p request says is of many e =
    grind (arith, keep_if_some, cell_read, number_read, and_parts, one_row_good, and_from, four_words)

-- four words make this request
four_read : (verb name cell places : List ℕ) (request : Request) (set : Bool) → bytes_eq verb (codes "set") ≡ set
    → (if set then load_of (name_in name) (row_of (cell_in cell) (places_in places)) else None) ≡ Some request
    → IsLineOf (sentence (verb ∷ name ∷ cell ∷ places ∷ [])) request
four_read verb name cell places request true is e = search (arith, row_read, same_bytes)
four_read verb name cell places request false is e = cc

-- words that make a request are those of its line
words_read : (words : List (List ℕ)) (request : Request)
    → request_of_words words ≡ Some request → IsLineOf (sentence words) request
words_read words request e = grind (arith, two_read, three_read, four_read)

-- a request that is meant was found
was_found : (o : Option Request) (request : Request) → found_meaning o ≡ Ok request → o ≡ Some request
was_found o request e = grind arith

-- a plan after the word that begins a journey
plan_read : (text rest : List ℕ) (read : Result Planned BadPlan) (request : Request) → text ≡ begin_word ++ rest
    → plan_in rest ≡ read → begin_meaning read ≡ Ok request → IsLineOf text request
plan_read text rest read request whole is e = grind (arith, read_is_spelled)

-- a text with that prefix is the word and the text after it
behind_begin : (text : List ℕ) → is_begin text ≡ true → text ≡ begin_word ++ drop (length begin_word) text
behind_begin text is = grind (arith, same_bytes, take-append-drop)

-- a text that makes a request is its line, whether it begins a journey or not
meant_by : (text : List ℕ) (request : Request) (begins : Bool) → is_begin text ≡ begins
    → (if begins then begin_meaning (plan_in (drop (length begin_word) text))
    else found_meaning (request_of_words (parts blank text))) ≡ Ok request
    → IsLineOf text request
meant_by text request true is e = search (arith, plan_read, behind_begin)
meant_by text request false is e =
    let found = was_found (request_of_words (parts blank text)) request e in
    subst (λ t. IsLineOf t request) (join_with_byte-slice_split blank text) (words_read (parts blank text) request found)

-- the same for each text
pub meant_is_line : (text : List ℕ) (request : Request) → text_meaning text ≡ Ok request → IsLineOf text request
meant_is_line text request e = meant_by text request (is_begin text) refl e

-- From a line to its meaning.

-- two texts without blanks have none when joined
append_no_blank : (x y : List ℕ) → has_no_blank x ≡ true → has_no_blank y ≡ true → has_no_blank (x ++ y) ≡ true
append_no_blank [] y front back = back
append_no_blank (b ∷ x) y front back =
    let both = and_parts (not (b == 32)) (has_no_blank x) front in
    and_from _ _ both.0 (append_no_blank x y both.1 back)

-- a text of digits, capitals and dashes has no blank
plain_no_blank : (text : List ℕ) → is_plain text ≡ true → has_no_blank text ≡ true
plain_no_blank [] plain = refl
plain_no_blank (b ∷ text) plain = grind (arith, and_parts, is_plain_byte, is_plain, nat_tests, and_from, plain_no_blank text)

-- the text of a cell has no blank
cell_no_blank : (x : Cell) → is_good_cell x ≡ true → has_no_blank (cell_text x) ≡ true
cell_no_blank x good =
    let sound = is_sound x good in
    let letter = kind_letter x.kind in
    append_no_blank letter _ (plain_no_blank letter (letter_plain x.kind))
    (append_no_blank x.supplier _ (plain_no_blank x.supplier (code_plain x.supplier sound.supplier))
    (append_no_blank x.product _ (plain_no_blank x.product (code_plain x.product sound.product))
    (plain_no_blank (night_text x.night) (night_plain x.night sound.night))))

-- the name of a batch has no blank
name_no_blank : (name : List ℕ) → is_batch_name name ≡ true → has_no_blank name ≡ true
name_no_blank name good =
    let words = words_no_blank (Loaded name 1) (and_from _ _ good refl) in
    (and_parts (has_no_blank name) _ (and_parts (has_no_blank (codes "loaded")) _ words).1).0

-- a number has no blank
journey_no_blank : (id : ℕ) → IsTrue (is_journey id) → has_no_blank (decimal id) ≡ true
journey_no_blank id good = number_lacks 32 1 most_events id (omega arith) (omega arith) good

-- the line of a step means that step
step_again : (id : ℕ) → IsTrue (is_journey id) → text_meaning (step_line id) ≡ Ok (Step id)
step_again id good =
    ap (λ words. found_meaning (request_of_words words))
    (parts_joined (codes "step") (decimal id ∷ []) (and_from _ _ (journey_no_blank id good) refl))
    ∙ ap (λ o. found_meaning (option_map Step o)) (number_spelled 1 most_events id (omega arith) good)

-- the line of a save-point means that save-point
save_again : (id : ℕ) → IsTrue (is_journey id) → text_meaning (save_line id) ≡ Ok (Save id)
save_again id good =
    ap (λ words. found_meaning (request_of_words words))
    (parts_joined (codes "save") (decimal id ∷ []) (and_from _ _ (journey_no_blank id good) refl))
    ∙ ap (λ o. found_meaning (option_map Save o)) (number_spelled 1 most_events id (omega arith) good)

-- the line of a turn means that turn
abort_again : (id position : ℕ) → IsTrue (is_journey id) → IsTrue (is_named_position position)
    → text_meaning (abort_line id position) ≡ Ok (Abort id position)
abort_again id position good named =
    ap (λ words. found_meaning (request_of_words words))
    (parts_joined (codes "abort") (decimal id ∷ decimal position ∷ [])
    (and_from _ _ (journey_no_blank id good)
    (and_from _ _ (number_lacks 32 0 most_named_position position (omega arith) (omega arith) named) refl)))
    ∙ ap (λ o. found_meaning (abort_of o (position_in (decimal position)))) (number_spelled 1 most_events id (omega arith) good)
    ∙ ap (λ p. found_meaning (abort_of (Some id) p)) (number_spelled 0 most_named_position position (omega arith) named)

-- the line of a load of one row means that load
set_again : (name : List ℕ) (x : Cell) (places : ℕ) → is_batch_name name ≡ true → is_good_cell x ≡ true
    → nat_le places most_places ≡ true
    → text_meaning (set_line name x places) ≡ Ok (Load name (allotted x places ∷ []))
set_again name x places named sold few =
    let within : IsTrue (is_between 0 most_places places) = grind (arith, and_from, le-leb) in
    ap (λ words. found_meaning (request_of_words words))
    (parts_joined (codes "set") (name ∷ cell_text x ∷ decimal places ∷ [])
    (and_from _ _ (name_no_blank name named)
    (and_from _ _ (cell_no_blank x sold)
    (and_from _ _ (number_lacks 32 0 most_places places (omega arith) (omega arith) within) refl))))
    ∙ ap (λ n. found_meaning (load_of n (row_of (cell_in (cell_text x)) (places_in (decimal places))))) (keep_if_yes is_batch_name name named)
    ∙ ap (λ o. found_meaning (load_of (Some name) (row_of o (places_in (decimal places))))) (cell_again x sold)
    ∙ ap (λ p. found_meaning (load_of (Some name) (row_of (Some x) p))) (number_spelled 0 most_places places (omega arith) within)

-- a batch of one row keeps the limits of its parts
row_limits : (name : List ℕ) (row : Row) → is_batch name (row ∷ []) ≡ true
    → (is_batch_name name ≡ true) × (is_good_cell row.cell ≡ true) × (nat_le row.places most_places ≡ true)
row_limits name row good = grind (arith, and_parts)

-- the line of a request means that request
pub line_is_meant : (text : List ℕ) (request : Request) → IsLineOf text request → text_meaning text ≡ Ok request
line_is_meant text request is =
    grind (arith, row_limits, set_again, spelled_is_read, step_again, and_parts, abort_again, save_again)
