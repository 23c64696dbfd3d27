-- The texts of items, of where a journey is, of refusals and of replies; and which reply a line is.
use Rattle.std.specs.Prelude.{◌≡◌, ℕ, ◌==◌, ◌&&◌, Bool, false, List, [], ◌∷◌, ◌++◌, codes, decimal, Option, Some, None, option_map, option_to_list, IsTrue}
use Rattle.allotment.specs.Limits.{is_between}
use Rattle.allotment.specs.Texts.{joined, blank}
use Rattle.plan.specs.Causes.{cause_word}
use Rattle.plan.specs.Limits.{most_steps, most_options}
use Rattle.commands.specs.Limits.{most_events, most_rows}
use Rattle.commands.specs.Names.{is_batch_name}
use Rattle.commands.specs.declared.items.Cause.{Cause}
use Rattle.commands.specs.declared.items.Cause.TheVariants as turn
use Rattle.commands.specs.declared.items.Cursor.{Cursor}
use Rattle.commands.specs.declared.items.Item.{Item}
use Rattle.commands.specs.declared.items.Item.TheVariants.{Transaction, Compensation, Turn, Save}
use Rattle.commands.specs.declared.items.Phase.{Phase}
use Rattle.commands.specs.declared.items.Phase.TheVariants.{Run, Back, Ended, Undone}
use Rattle.commands.specs.declared.replies.CsvCause.{CsvCause}
use Rattle.commands.specs.declared.replies.CsvCause.TheVariants as csv
use Rattle.commands.specs.declared.replies.Refusal.{Refusal}
use Rattle.commands.specs.declared.replies.Refusal.TheVariants.{BadHead, NoAgent, NoKey, BadBody, BadPlan, BadCsv, UnknownPath, WrongMethod, NoJourney, Finished, NoSavePoint, BelowHeld, BatchDiffers, KeyReused, TooLarge, Limit, NoLength, UnknownSchema, AlreadyNew, NoSave}
use Rattle.commands.specs.declared.replies.Reply.{Reply}
use Rattle.commands.specs.declared.replies.Reply.TheVariants.{Loaded, Begun, Moved, Refused}

-- `.`
abbrev pub dot : ℕ
dot = 46

-- words with one blank between each two
abbrev pub sentence : List (List ℕ) → List ℕ
sentence words = joined blank words

-- why a journey turned, by a letter: stopped, refused or asked
abbrev pub turn_letter : Cause → List ℕ
turn_letter turn.Stop = codes "s"
turn_letter turn.Refused = codes "r"
turn_letter turn.Asked = codes "a"

-- a step and one of its options: `1.2`
abbrev pub step_text : ℕ → ℕ → List ℕ
step_text step option = joined dot (decimal step ∷ decimal option ∷ [])

-- an item: `T1.2`, `C1.2`, `B0s`, `S3`
abbrev pub item_text : Item → List ℕ
item_text (Transaction step option) = codes "T" ++ step_text step option
item_text (Compensation step option) = codes "C" ++ step_text step option
item_text (Turn target cause) = codes "B" ++ decimal target ++ turn_letter cause
item_text (Save position) = codes "S" ++ decimal position

-- what a journey is doing, in one word
abbrev pub phase_word : Phase → List ℕ
phase_word Run = codes "run"
phase_word (Back target) = codes "back"
phase_word Ended = codes "ended"
phase_word Undone = codes "undone"

-- where a journey is: `run 2`, `back 5 to 2`, `ended 6`, `undone 0`
abbrev pub state_text : ℕ → Phase → List ℕ
state_text position Run = sentence (codes "run" ∷ decimal position ∷ [])
state_text position (Back target) =
    sentence (codes "back" ∷ decimal position ∷ codes "to" ∷ decimal target ∷ [])
state_text position Ended = sentence (codes "ended" ∷ decimal position ∷ [])
state_text position Undone = sentence (codes "undone" ∷ codes "0" ∷ [])

-- the text of a cursor: where it is
abbrev pub cursor_text : Cursor → List ℕ
cursor_text cursor = state_text cursor.pos cursor.phase

-- what is wrong with an allotment file, in one word
abbrev pub csv_word : CsvCause → List ℕ
csv_word csv.Size = codes "size"
csv_word csv.Header = codes "header"
csv_word csv.Many = codes "many"
csv_word csv.Shape = codes "shape"
csv_word csv.Kind = codes "kind"
csv_word csv.Code = codes "code"
csv_word csv.Night = codes "night"
csv_word csv.Places = codes "places"
csv_word csv.Twice = codes "twice"
csv_word csv.Empty = codes "empty"

-- what a refusal reports: its number and name, and the step, row, cause or version that it has
pub record Told : Type 0 where
  pub number : ℕ
  pub name : List ℕ
  pub step : Option ℕ
  pub row : Option ℕ
  pub cause : Option (List ℕ)
  pub version : Option ℕ

-- a number and a name alone
abbrev pub plainly : ℕ → List ℕ → Told
plainly number name =
    record { number = number; name = name; step = None; row = None; cause = None; version = None }

-- the table of refusals
abbrev pub told : Refusal → Told
told BadHead = plainly 1 (codes "BadHead")
told NoAgent = plainly 2 (codes "NoAgent")
told NoKey = plainly 3 (codes "NoKey")
told BadBody = plainly 4 (codes "BadBody")
told (BadPlan fault) =
    let cause = cause_word fault.cause in
    record (plainly 5 (codes "BadPlan")) { step = Some fault.step; cause = Some cause }
told (BadCsv row cause) =
    record (plainly 6 (codes "BadCsv")) { row = Some row; cause = Some (csv_word cause) }
told UnknownPath = plainly 7 (codes "UnknownPath")
told WrongMethod = plainly 8 (codes "WrongMethod")
told NoJourney = plainly 9 (codes "NoJourney")
told Finished = plainly 10 (codes "Finished")
told NoSavePoint = plainly 11 (codes "NoSavePoint")
told (BelowHeld row) = record (plainly 12 (codes "BelowHeld")) { row = Some row }
told BatchDiffers = plainly 13 (codes "BatchDiffers")
told KeyReused = plainly 14 (codes "KeyReused")
told TooLarge = plainly 15 (codes "TooLarge")
told Limit = plainly 16 (codes "Limit")
told NoLength = plainly 19 (codes "NoLength")
told (UnknownSchema version) =
    record (plainly 20 (codes "UnknownSchema")) { version = Some version }
told AlreadyNew = plainly 23 (codes "AlreadyNew")
told NoSave = plainly 28 (codes "NoSave")

-- an optional number, as one word or none
abbrev pub number_told : Option ℕ → List (List ℕ)
number_told number = option_to_list (option_map decimal number)

-- the words after a refusal's name: its step, row, cause and version, each where it has one
abbrev pub particulars : Told → List (List ℕ)
particulars t =
    number_told t.step ++ number_told t.row ++ option_to_list t.cause ++ number_told t.version

-- a refusal's line: `refused 5 BadPlan 2 night`
abbrev pub refusal_line : Refusal → List ℕ
refusal_line refusal =
    let t = told refusal in sentence (codes "refused" ∷ decimal t.number ∷ t.name ∷ particulars t)

-- the line of a reply: `loaded b1 2`, `journey 1 begun`, `journey 1 T1.1 run 1`, or the refusal's
abbrev pub reply_line : Reply → List ℕ
reply_line (Loaded name rows) = sentence (codes "loaded" ∷ name ∷ decimal rows ∷ [])
reply_line (Begun id) = sentence (codes "journey" ∷ decimal id ∷ codes "begun" ∷ [])
reply_line (Moved id item pos phase) =
    sentence (codes "journey" ∷ decimal id ∷ item_text item ∷ state_text pos phase ∷ [])
reply_line (Refused refusal) = refusal_line refusal

-- the number of a journey: 1 to 12 digits, from 1
abbrev pub is_journey : ℕ → Bool
is_journey id = is_between 1 most_events id

-- a position, or the target of a turn: 0 to the greatest number of steps
abbrev pub is_position : ℕ → Bool
is_position position = is_between 0 most_steps position

-- a step and one of its options, both from 1
abbrev pub is_option : ℕ → ℕ → Bool
is_option step option = is_between 1 most_steps step && is_between 1 most_options option

-- the numbers of an item keep the limits of plans
abbrev pub is_item : Item → Bool
is_item (Transaction step option) = is_option step option
is_item (Compensation step option) = is_option step option
is_item (Turn target cause) = is_position target
is_item (Save position) = is_position position

-- a position and a target keep the limits of plans, and what is undone is at 0
abbrev pub is_state : ℕ → Phase → Bool
is_state position Run = is_position position
is_state position (Back target) = is_position position && is_position target
is_state position Ended = is_position position
is_state position Undone = position == 0

-- an accepted reply, whether a journey can come to it or not: its parts keep their limits
abbrev pub is_accepted : Reply → Bool
is_accepted (Loaded name rows) = is_batch_name name && is_between 1 most_rows rows
is_accepted (Begun id) = is_journey id
is_accepted (Moved id item pos phase) = is_journey id && is_item item && is_state pos phase
is_accepted (Refused refusal) = false

-- the text is the line of this accepted reply
pub record IsReplyLine (text : List ℕ) (reply : Reply) : Type 0 where
  pub accepted : IsTrue (is_accepted reply)
  pub spelled : text ≡ reply_line reply

-- which reply a line is: the accepted reply that has this line, or that there is none
abbrev pub FindsReply : List ℕ → Option Reply → Type 0
FindsReply text None = (reply : Reply) → IsTrue (is_accepted reply) → text ≡ reply_line reply → ⊥
FindsReply text (Some reply) = IsReplyLine text reply

-- an accepted reply is found by its line, and no other in its place
abbrev pub ReadsReply : List ℕ → Option Reply → Type 0
ReadsReply text found =
    (reply : Reply) → IsTrue (is_accepted reply) → text ≡ reply_line reply → found ≡ Some reply

-- no line is that of two accepted replies
abbrev pub HaveOneLine : Type 0
HaveOneLine =
    (x y : Reply) → IsTrue (is_accepted x) → IsTrue (is_accepted y)
    → reply_line x ≡ reply_line y → x ≡ y
