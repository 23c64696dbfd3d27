-- The lines of the input, their meanings, and the lines that answer them.
use Rattle.std.specs.Prelude.{◌≡◌, ◌↔◌, ℕ, ◌==◌, ◌&&◌, Bool, List, [], ◌∷◌, ◌++◌, length, drop, nat_le, nat_eq, bytes_eq, codes, decimal, if◌then◌else◌, Option, Some, None, option_map, flat_map, Result, Ok, Err, IsTrue}
use Rattle.std.specs.List.{starts_with}
use Rattle.std.specs.Str.{is_utf8}
use Rattle.allotment.specs.Limits.{is_between}
use Rattle.allotment.specs.Rows.{allotted}
use Rattle.allotment.specs.Texts.{line_feed, blank, parts, keep_if, number_from, cell_in, cell_text, places_in}
use Rattle.allotment.specs.declared.cells.Cell.{Cell}
use Rattle.allotment.specs.declared.cells.Row.{Row}
use Rattle.plan.specs.PlanModel.{Planned, is_plan}
use Rattle.plan.specs.PlanLine.{plan_in, plan_line}
use Rattle.plan.specs.declared.faults.BadPlan.{BadPlan}
use Rattle.commands.specs.Batches.{is_batch}
use Rattle.commands.specs.Limits.{most_events, most_named_position}
use Rattle.commands.specs.Names.{is_batch_name}
use Rattle.commands.specs.Request.{Request, Load, Begin, Step, Abort, Stop, Save}
use Rattle.commands.specs.Texts.{is_journey, refusal_line, reply_line, sentence}
use Rattle.commands.specs.declared.replies.Refusal.{Refusal}
use Rattle.commands.specs.declared.replies.Refusal.TheVariants as refusal
use Rattle.ledger.specs.Answer.{State, outcome}
use Rattle.saga_core.specs.StreamScenes.{ended}

-- Lines.

-- the lines, with one more byte prepended to the first
abbrev pub with_first : ℕ → List (List ℕ) → List (List ℕ)
with_first byte [] = (byte ∷ []) ∷ []
with_first byte (line ∷ later) = (byte ∷ line) ∷ later

-- the lines of bytes: each line feed ends one, and the bytes after the last line feed are one if there are any
abbrev pub lines : List ℕ → List (List ℕ)
lines [] = []
lines (byte ∷ rest) = if byte == line_feed then [] ∷ lines rest else with_first byte (lines rest)

-- The line of each request.

-- `set a F/AL/A1/2030-06-01 10`
abbrev pub set_line : List ℕ → Cell → ℕ → List ℕ
set_line name cell places = sentence (codes "set" ∷ name ∷ cell_text cell ∷ decimal places ∷ [])

-- the prefix of a line that begins a journey
abbrev pub begin_word : List ℕ
begin_word = codes "begin "

-- `begin F/AL/A1/2030-06-01/1/1!0`
abbrev pub begin_line : Planned → List ℕ
begin_line plan = begin_word ++ plan_line plan

-- `step 1`
abbrev pub step_line : ℕ → List ℕ
step_line id = sentence (codes "step" ∷ decimal id ∷ [])

-- `abort 1 0`
abbrev pub abort_line : ℕ → ℕ → List ℕ
abort_line id position = sentence (codes "abort" ∷ decimal id ∷ decimal position ∷ [])

-- `save 1`
abbrev pub save_line : ℕ → List ℕ
save_line id = sentence (codes "save" ∷ decimal id ∷ [])

-- a position that a line may name
abbrev pub is_named_position : ℕ → Bool
is_named_position position = is_between 0 most_named_position position

-- the text is the line of this request, which keeps the limits. A load of one row has a line, and a stop has none
abbrev pub IsLineOf : List ℕ → Request → Type 0
IsLineOf text (Load name (row ∷ [])) =
    IsTrue (is_batch name (row ∷ [])) × (text ≡ set_line name row.cell row.places)
IsLineOf text (Load name rows) = ⊥
IsLineOf text (Begin plan) = IsTrue (is_plan plan) × (text ≡ begin_line plan)
IsLineOf text (Step id) = IsTrue (is_journey id) × (text ≡ step_line id)
IsLineOf text (Abort id position) =
    IsTrue (is_journey id && is_named_position position) × (text ≡ abort_line id position)
IsLineOf text (Stop id) = ⊥
IsLineOf text (Save id) = IsTrue (is_journey id) × (text ≡ save_line id)

-- The meaning of a line.

-- the request that a line makes, or the refusal of the line
abbrev pub Meaning : Type 0
Meaning = Result Request Refusal

-- how many bytes a line may have, without its line feed
abbrev pub longest_line : ℕ
longest_line = 8192

-- the line is not too long, and is UTF-8
abbrev pub is_readable : List ℕ → Bool
is_readable line = nat_le (length line) longest_line && is_utf8 line

-- the number of a journey in a word
abbrev pub journey_in : List ℕ → Option ℕ
journey_in word = number_from 1 most_events word

-- the position in a word
abbrev pub position_in : List ℕ → Option ℕ
position_in word = number_from 0 most_named_position word

-- the word, if it is a name of a batch
abbrev pub name_in : List ℕ → Option (List ℕ)
name_in word = keep_if is_batch_name word

-- so many places of a cell
abbrev pub row_of : Option Cell → Option ℕ → Option Row
row_of (Some cell) (Some places) = Some (allotted cell places)
row_of _ _ = None

-- the load of a row, under a name
abbrev pub load_of : Option (List ℕ) → Option Row → Option Request
load_of (Some name) (Some row) = Some (Load name (row ∷ []))
load_of _ _ = None

-- the turn of a journey to a position
abbrev pub abort_of : Option ℕ → Option ℕ → Option Request
abort_of (Some id) (Some position) = Some (Abort id position)
abort_of _ _ = None

-- the request of a verb and a journey
abbrev pub request_of_two : List ℕ → List ℕ → Option Request
request_of_two verb id =
    if bytes_eq verb (codes "step") then option_map Step (journey_in id)
    else if bytes_eq verb (codes "save") then option_map Save (journey_in id)
    else None

-- the request of a verb, a journey and a position
abbrev pub request_of_three : List ℕ → List ℕ → List ℕ → Option Request
request_of_three verb id position =
    if bytes_eq verb (codes "abort") then abort_of (journey_in id) (position_in position) else None

-- the request of a verb, a name, a cell and places
abbrev pub request_of_four : List ℕ → List ℕ → List ℕ → List ℕ → Option Request
request_of_four verb name cell places =
    if bytes_eq verb (codes "set")
    then load_of (name_in name) (row_of (cell_in cell) (places_in places)) else None

-- the request of words, of which the first is the verb
abbrev pub request_of_words : List (List ℕ) → Option Request
request_of_words (verb ∷ id ∷ []) = request_of_two verb id
request_of_words (verb ∷ id ∷ position ∷ []) = request_of_three verb id position
request_of_words (verb ∷ name ∷ cell ∷ places ∷ []) = request_of_four verb name cell places
request_of_words _ = None

-- the request, if there is one, or the refusal of a malformed line
abbrev pub found_meaning : Option Request → Meaning
found_meaning (Some request) = Ok request
found_meaning None = Err refusal.BadBody

-- the line begins a journey
abbrev pub is_begin : List ℕ → Bool
is_begin line = starts_with nat_eq line begin_word

-- a plan is begun, and a bad plan is refused
abbrev pub begin_meaning : Result Planned BadPlan → Meaning
begin_meaning (Ok plan) = Ok (Begin plan)
begin_meaning (Err fault) = Err (refusal.BadPlan fault)

-- the meaning of a text: a plan follows the word `begin`, and any other text is split at each blank
abbrev pub text_meaning : List ℕ → Meaning
text_meaning line =
    if is_begin line then begin_meaning (plan_in (drop (length begin_word) line))
    else found_meaning (request_of_words (parts blank line))

-- a text makes a request exactly if it is the line of that request
abbrev pub HaveOneLine : Type 0
HaveOneLine = (text : List ℕ) (request : Request) → (text_meaning text ≡ Ok request) ↔ IsLineOf text request

-- the meaning of a line: one that is too long, or not UTF-8, is malformed
abbrev pub meaning_in : List ℕ → Meaning
meaning_in line = if is_readable line then text_meaning line else Err refusal.BadBody

-- Answers. The requests of lines are the house's.

-- the answering line, and the state of the desk after it
pub record Answered : Type 0 where
  pub text : List ℕ
  pub after : State

-- a request is executed, and a refusal changes nothing
abbrev pub answer_to : State → Meaning → Answered
answer_to s (Ok request) =
    let made = outcome s None request in record { text = reply_line made.reply; after = made.state }
answer_to s (Err why) = record { text = refusal_line why; after = s }

-- the answer to a line
abbrev pub answer_line : State → List ℕ → Answered
answer_line s line = answer_to s (meaning_in line)

-- the answers to these lines, in order
abbrev pub answer_lines : State → List (List ℕ) → List (List ℕ)
answer_lines s [] = []
answer_lines s (line ∷ later) =
    (answer_line s line).text ∷ answer_lines (answer_line s line).after later

-- the state of the desk after these lines
abbrev pub state_after_lines : State → List (List ℕ) → State
state_after_lines s [] = s
state_after_lines s (line ∷ later) = state_after_lines (answer_line s line).after later

-- the texts, each followed by a line feed
abbrev pub written : List (List ℕ) → List ℕ
written texts = flat_map ended texts
