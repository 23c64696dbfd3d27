-- A worked example: an accepted reply, and its line.
use Rattle.std.specs.Prelude.{◌≡◌, ℕ, List, codes, Option, Some, IsTrue, refl}
use Rattle.std.specs.Fmt.{digits}
use Rattle.commands.specs.Texts.{is_accepted, reply_line, ReadsReply}
use Rattle.commands.specs.declared.items.Item.TheVariants.{Transaction}
use Rattle.commands.specs.declared.items.Phase.TheVariants.{Run}
use Rattle.commands.specs.declared.replies.Reply.{Reply}
use Rattle.commands.specs.declared.replies.Reply.TheVariants.{Moved}

-- journey 3 has done its first step with the second option, and runs
abbrev pub first_step_done : Reply
first_step_done = Moved 3 (Transaction 1 2) 1 Run

abbrev pub first_step_text : List ℕ
first_step_text = codes "journey 3 T1.2 run 1"

pub first_step_is_accepted : IsTrue (is_accepted first_step_done)
first_step_is_accepted = refl

pub first_step_has_this_line : reply_line first_step_done ≡ first_step_text
unfolding digits
first_step_has_this_line = refl

-- a reader of this line finds that reply. A definition with one more premise, which the reply does not meet, is refused
-- here
pub first_step_is_found :
    (found : Option Reply) → ReadsReply (reply_line first_step_done) found → found ≡ Some first_step_done
first_step_is_found found reads = reads first_step_done refl refl
