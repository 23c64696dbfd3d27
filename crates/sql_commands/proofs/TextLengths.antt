-- How long the line of an accepted reply and the text of a batch are at most; a line is ASCII, so that it can be read from its row. For
-- `find_reply`, and for what is permitted.
use Rattle.std.proofs.Common.{◌≡◌, ◌+◌, ◌≤◌, ℕ, List, [], ◌∷◌, ◌++◌, length, true, IsTrue, refl, ◌∙◌, arith, leb-true, ◌&&◌, decimal, nat_le, nat_lt, IsUtf8, ◌*◌, length-append}
use Rattle.std.proofs.lemmas.Bool.{and_parts}
use Rattle.std.proofs.lemmas.Fmt.{IsAscii-decimal, length-decimal-le}
use Rattle.std.proofs.lemmas.List.Folds.{list_all-append}
use Rattle.allotment.specs.Limits.{is_between, is_code, is_good_cell, is_night, most_places}
use Rattle.allotment.specs.Short.{is_ascii}
use Rattle.allotment.proofs.ShortLemmas.{is_ascii-Decides, is_utf8}
use Rattle.allotment.proofs.TestLemmas.{and_make}
use Rattle.plan.specs.Limits.{most_options, most_steps}
use Rattle.commands.specs.Limits.{longest_batch_name, most_events, most_rows}
use Rattle.commands.specs.Names.{is_batch_name}
use Rattle.commands.specs.Texts.{is_accepted, is_item, is_journey, is_option, is_position, is_state, item_text, reply_line, state_text}
use Rattle.commands.specs.declared.items.Cause.TheVariants.{Stop, Refused, Asked}
use Rattle.commands.specs.declared.items.Item.{Item}
use Rattle.commands.specs.declared.items.Item.TheVariants.{Transaction, Compensation, Turn, Save}
use Rattle.commands.specs.declared.items.Phase.{Phase}
use Rattle.commands.specs.declared.items.Phase.TheVariants.{Run, Back, Ended, Undone}
use Rattle.commands.specs.declared.replies.Reply.{Reply}
use Rattle.commands.specs.declared.replies.Reply.TheVariants as reply
use Rattle.commands.proofs.NameLemmas.{batch_is_short}
use Rattle.commands.proofs.NumberLemmas.{between_parts}
use Rattle.std.specs.List.{list_all}
use Rattle.allotment.specs.Nights.{night_text}
use Rattle.allotment.specs.Texts.{cell_text, kind_letter, line_feed, row_text, slash}
use Rattle.allotment.specs.declared.cells.Row.{Row}
use Rattle.allotment.specs.declared.codes.Kind.{Kind}
use Rattle.allotment.specs.declared.codes.Kind.TheVariants.{Flight}
use Rattle.commands.specs.Batches.{is_good_row}
use Rattle.sql_model.specs.ExpectedRows.{batch_text}
use Rattle.sql_commands.proofs.RowLimits.{code_within}

-- The line of an accepted reply is ASCII, so that it can be read from its row, and short, so that it fits one.

-- the text is ASCII, of at most so many bytes
record IsShort (most : ℕ) (text : List ℕ) : Type 0 where
  pub within : length text ≤ most
  pub ascii : is_ascii text ≡ true

-- one text after another, with a byte between them
joined : {a b : ℕ} {x y : List ℕ} (most c : ℕ) → a + b + 1 ≤ most → nat_lt c 128 ≡ true → IsShort a x → IsShort b y
    → IsShort most (x ++ (c ∷ y))
joined {x = x} {y = y} most c few plain first second = record {
  within = (
      omega (arith, length-append x (c ∷ y), first.within, second.within, few));
  ascii = list_all-append (λ byte. nat_lt byte 128) x (c ∷ y)
      ∙ and_make (is_ascii x) (is_ascii (c ∷ y)) first.ascii (and_make (nat_lt c 128) (is_ascii y) plain second.ascii);
}

-- a number in range
digits : (low high n : ℕ) → high ≤ most_events → IsTrue (is_between low high n) → IsShort 12 (decimal n)
digits low high n few in_range =
    let most = (between_parts low high n in_range).1 in
    record {
      within = length-decimal-le 12 n (omega arith) (omega (arith, most, few)) (omega (arith, most, few));
      ascii = (is_ascii-Decides (decimal n)).1 (IsAscii-decimal n (omega (arith, most, few)));
    }

-- the end of a text
none : IsShort 0 []
none = record { within = omega arith; ascii = refl }

option_short : (step option : ℕ) → is_option step option ≡ true → IsShort 25 (decimal step ++ (46 ∷ decimal option))
option_short step option good =
    let both = and_parts (is_between 1 most_steps step) (is_between 1 most_options option) good in
    joined 25 46 (omega arith) refl (digits 1 most_steps step (omega arith) both.0) (digits 1 most_options option (omega arith) both.1)

turn_short : (target letter : ℕ) → is_position target ≡ true → nat_lt letter 128 ≡ true → IsShort 13 (decimal target ++ letter ∷ [])
turn_short target letter good plain = joined 13 letter (omega arith) plain (digits 0 most_steps target (omega arith) good) none

item_short : (x : Item) → is_item x ≡ true → IsShort 26 (item_text x)
item_short (Transaction step option) good = let rest = option_short step option good in record { within = (let few = rest.within in omega (arith, few)); ascii = rest.ascii }
item_short (Compensation step option) good = let rest = option_short step option good in record { within = (let few = rest.within in omega (arith, few)); ascii = rest.ascii }
item_short (Turn target Stop) good = let rest = turn_short target 115 good refl in record { within = (let few = rest.within in omega (arith, few)); ascii = rest.ascii }
item_short (Turn target Refused) good = let rest = turn_short target 114 good refl in record { within = (let few = rest.within in omega (arith, few)); ascii = rest.ascii }
item_short (Turn target Asked) good = let rest = turn_short target 97 good refl in record { within = (let few = rest.within in omega (arith, few)); ascii = rest.ascii }
item_short (Save position) good = let rest = digits 0 most_steps position (omega arith) good in record { within = (let few = rest.within in omega (arith, few)); ascii = rest.ascii }

state_short : (pos : ℕ) (phase : Phase) → is_state pos phase ≡ true → IsShort 33 (state_text pos phase)
state_short pos Run good = let rest = digits 0 most_steps pos (omega arith) good in record { within = (let few = rest.within in omega (arith, few)); ascii = rest.ascii }
state_short pos (Back target) good =
    let both = and_parts (is_position pos) (is_position target) good in
    let last = digits 0 most_steps target (omega arith) both.1 in
    let more : length (116 ∷ 111 ∷ 32 ∷ decimal target) ≤ 15 = (let few = last.within in omega (arith, few)) in
    let rest = joined 28 32 (omega arith) refl (digits 0 most_steps pos (omega arith) both.0) (record { within = more; ascii = last.ascii }) in
    record { within = (let few = rest.within in omega (arith, few)); ascii = rest.ascii }
state_short pos Ended good = let rest = digits 0 most_steps pos (omega arith) good in record { within = (let few = rest.within in omega (arith, few)); ascii = rest.ascii }
state_short pos Undone good = record { within = omega arith; ascii = refl }

-- the line of an accepted reply
line_short : (r : Reply) → is_accepted r ≡ true → IsShort 100 (reply_line r)
line_short (reply.Loaded name rows) good =
    let both = and_parts (is_batch_name name) (is_between 1 most_rows rows) good in
    let word = and_parts (nat_le (length name) longest_batch_name) (is_ascii name) (batch_is_short name both.0) in
    let named : IsShort 24 name = record { within = leb-true (length name) longest_batch_name word.0; ascii = word.1 } in
    let rest = joined 37 32 (omega arith) refl named (digits 1 most_rows rows (omega arith) both.1) in
    record { within = (let few = rest.within in omega (arith, few)); ascii = rest.ascii }
line_short (reply.Begun id) good =
    let begun : IsShort 5 (98 ∷ 101 ∷ 103 ∷ 117 ∷ 110 ∷ []) = record { within = omega arith; ascii = refl } in
    let rest = joined 18 32 (omega arith) refl (digits 1 most_events id (omega arith) good) begun in
    record { within = (let few = rest.within in omega (arith, few)); ascii = rest.ascii }
line_short (reply.Moved id item pos phase) good =
    let two = and_parts (is_journey id && is_item item) (is_state pos phase) good in
    let one = and_parts (is_journey id) (is_item item) two.0 in
    let later = joined 60 32 (omega arith) refl (item_short item one.1) (state_short pos phase two.1) in
    let rest = joined 73 32 (omega arith) refl (digits 1 most_events id (omega arith) one.0) later in
    record { within = (let few = rest.within in omega (arith, few)); ascii = rest.ascii }
line_short (reply.Refused refusal) good = cc

pub line_text : (r : Reply) → is_accepted r ≡ true → IsUtf8 (reply_line r)
line_text r good = is_utf8 (reply_line r) (line_short r good).ascii

pub line_within : (r : Reply) → is_accepted r ≡ true → length (reply_line r) ≤ 100
line_within r good = (line_short r good).within

-- How long the text of a batch is at most.

-- one text after another, with a byte between them
with_byte : (x : List ℕ) (c : ℕ) (y : List ℕ) (a b : ℕ) → length x ≤ a → length y ≤ b → length (x ++ (c ∷ y)) ≤ a + b + 1
with_byte x c y a b first second =
    omega (arith, length-append x (c ∷ y), first, second)

letter_one : (k : Kind) → length (kind_letter k) ≤ 1
letter_one Flight = omega arith
letter_one _ = omega arith

night_ten : (n : ℕ) → length (night_text n) ≤ 10
night_ten n = let same : length (night_text n) ≡ 10 = refl in omega (arith, same)

row_within : (r : Row) → is_good_row r ≡ true → length (row_text r) ≤ 40
row_within r good =
    let x = r.cell in
    let both = and_parts (is_good_cell x) (nat_le r.places most_places) good in
    let names = (and_parts (is_code x.supplier && is_code x.product) (is_night x.night) both.0).0 in
    let codes = and_parts (is_code x.supplier) (is_code x.product) names in
    let most = leb-true r.places most_places both.1 in
    let digits = length-decimal-le 6 r.places (omega arith) (omega (arith, most)) (omega (arith, most)) in
    let product = with_byte x.product slash (night_text x.night) 8 10 (code_within x.product codes.1) (night_ten x.night) in
    let supplier = with_byte x.supplier slash _ 8 19 (code_within x.supplier codes.0) product in
    let cell = with_byte (kind_letter x.kind) slash _ 1 28 (letter_one x.kind) supplier in
    omega (arith, with_byte (cell_text x) slash (decimal r.places) 30 6 cell digits)

-- each row of a batch is a line
pub batch_within : (rows : List Row) → list_all is_good_row rows ≡ true → length (batch_text rows) ≤ 41 * length rows
batch_within [] good = omega arith
batch_within (r ∷ rows) good =
    let both = and_parts (is_good_row r) (list_all is_good_row rows) good in
    let line = length-append (row_text r) (line_feed ∷ []) in
    let all = length-append (row_text r ++ line_feed ∷ []) (batch_text rows) in
    omega (arith, line, all, row_within r both.0, batch_within rows both.1)
