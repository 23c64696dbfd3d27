-- What a reader finds in a text, and a reply line by its words.
use Rattle.std.specs.Prelude.{◌≡◌, ℕ, Bool, false, List, [], ◌∷◌, ◌++◌, map, codes, decimal, Option, Some, None, IsTrue}
use Rattle.std.specs.Borrow.{Bor}
use Rattle.allotment.specs.Limits.{is_between}
use Rattle.commands.specs.declared.items.Cause.{Cause}
use Rattle.commands.specs.declared.items.Phase.{Phase}
use Rattle.commands.specs.declared.items.Phase.TheVariants.{Run, Back, Ended, Undone}
use Rattle.commands.specs.declared.replies.Reply.{Reply}
use Rattle.commands.specs.declared.replies.Reply.TheVariants.{Loaded, Begun, Moved, Refused}
use Rattle.commands.specs.Texts.{step_text, is_option, is_position, is_state, turn_letter, item_text, refusal_line}

-- what a reader finds: the good value with this text, or that there is none
abbrev pub Finds : {X T : Type 0} → (X → Bool) → (X → T) → T → Option X → Type 0
Finds {X} good spelling text None = (x : X) → IsTrue (good x) → text ≡ spelling x → ⊥
Finds good spelling text (Some x) = IsTrue (good x) × (text ≡ spelling x)

-- a text begins as a number does: with a digit from 1 on, or as 0 alone
abbrev pub is_plain_start : List ℕ → Bool
is_plain_start [] = false
is_plain_start (byte ∷ []) = is_between 48 57 byte
is_plain_start (byte ∷ next ∷ later) = is_between 49 57 byte

-- a step and one of its options, as a pair
abbrev pub is_step_pair : ℕ × ℕ → Bool
is_step_pair pair = is_option pair.0 pair.1

-- the text of such a pair
abbrev pub step_pair_text : ℕ × ℕ → List ℕ
step_pair_text pair = step_text pair.0 pair.1

-- what stands before the letter of a cause at the end of a text, and the cause, if one does
abbrev pub FindsCause : List ℕ → Option (Bor (List ℕ) × Cause) → Type 0
FindsCause text None = (front : List ℕ) (cause : Cause) → text ≡ front ++ turn_letter cause → ⊥
FindsCause text (Some found) = text ≡ found.0.now ++ turn_letter found.1

-- the target and the cause of a turn, as a pair, keep the limits
abbrev pub is_turn_pair : ℕ × Cause → Bool
is_turn_pair pair = is_position pair.0

-- the text of such a pair
abbrev pub turn_pair_text : ℕ × Cause → List ℕ
turn_pair_text pair = decimal pair.0 ++ turn_letter pair.1

-- a position and a phase, as a pair, keep the limits
abbrev pub is_state_pair : ℕ × Phase → Bool
is_state_pair pair = is_state pair.0 pair.1

-- the words of where a journey is, going forward or at its end
abbrev pub standing_words : List ℕ → List ℕ → List (List ℕ)
standing_words phase position = phase ∷ position ∷ []

-- the words of where a journey is, going back
abbrev pub back_words : List ℕ → List ℕ → List (List ℕ)
back_words position target = codes "back" ∷ position ∷ codes "to" ∷ target ∷ []

-- the words of where a journey is
abbrev pub state_words : ℕ → Phase → List (List ℕ)
state_words position Run = standing_words (codes "run") (decimal position)
state_words position (Back target) = back_words (decimal position) (decimal target)
state_words position Ended = standing_words (codes "ended") (decimal position)
state_words position Undone = standing_words (codes "undone") (codes "0")

-- the words of such a pair
abbrev pub state_pair_words : ℕ × Phase → List (List ℕ)
state_pair_words pair = state_words pair.0 pair.1

-- the words of the reply to a batch
abbrev pub loaded_words : List ℕ → List ℕ → List (List ℕ)
loaded_words name rows = codes "loaded" ∷ name ∷ rows ∷ []

-- the words of the reply to a journey which begins
abbrev pub begun_words : List ℕ → List (List ℕ)
begun_words id = codes "journey" ∷ id ∷ codes "begun" ∷ []

-- the words of the reply for a journey which moved
abbrev pub moved_words : List ℕ → List ℕ → List (List ℕ) → List (List ℕ)
moved_words id item state = codes "journey" ∷ id ∷ item ∷ state

-- the words of the reply for a journey which moved, and goes forward or is at its end
abbrev pub stood_words : List ℕ → List ℕ → List ℕ → List ℕ → List (List ℕ)
stood_words id item phase position = moved_words id item (standing_words phase position)

-- the words of the reply for a journey which moved, and goes back
abbrev pub turned_words : List ℕ → List ℕ → List ℕ → List ℕ → List (List ℕ)
turned_words id item position target = moved_words id item (back_words position target)

-- the words of a reply's line, of which a refusal counts as one
abbrev pub reply_words : Reply → List (List ℕ)
reply_words (Loaded name rows) = loaded_words name (decimal rows)
reply_words (Begun id) = begun_words (decimal id)
reply_words (Moved id item pos phase) =
    moved_words (decimal id) (item_text item) (state_words pos phase)
reply_words (Refused refusal) = refusal_line refusal ∷ []

-- the texts to which words refer
abbrev pub texts_of : List (Bor (List ℕ)) → List (List ℕ)
texts_of words = map (λ (word : Bor (List ℕ)). word.now) words
