-- Words that are of no reply. For the readers of replies.
use Rattle.std.specs.Prelude.{◌≡◌, ℕ, ◌&&◌, List, IsTrue}
use Rattle.std.proofs.lemmas.Bool.{and_parts}
use Rattle.commands.specs.declared.items.Phase.{Phase}
use Rattle.commands.specs.declared.replies.Reply.{Reply}
use Rattle.commands.specs.declared.replies.Reply.TheVariants.{Loaded, Begun, Moved, Refused}
use Rattle.commands.specs.Texts.{is_accepted, is_journey, is_item, is_state}
use Rattle.commands.specs.Readings.{is_state_pair, state_pair_words, standing_words, moved_words, reply_words}

-- the words are of no reply
abbrev pub IsNoReply : List (List ℕ) → Type 0
IsNoReply words = (reply : Reply) → IsTrue (is_accepted reply) → words ≡ reply_words reply → ⊥

-- the words after the item are no phase and position
pub no_state : (id item phase position : List ℕ)
    → ((pair : ℕ × Phase)
    → IsTrue (is_state_pair pair) → standing_words phase position ≡ state_pair_words pair → ⊥)
    → IsNoReply (moved_words id item (standing_words phase position))
no_state id item phase position none (Loaded name rows) good spelled = cc
no_state id item phase position none (Begun number) good spelled = cc
no_state id item phase position none (Moved number made pos going) good spelled =
    none (pos, going) (and_parts (is_journey number && is_item made) (is_state pos going) good).1 cc
no_state id item phase position none (Refused refusal) good spelled = cc
