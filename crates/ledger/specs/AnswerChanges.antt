-- The answer to a request, by where its journey is.
use Rattle.std.specs.Prelude.{ℕ, Some}
use Rattle.plan.specs.PlanModel.{Planned}
use Rattle.commands.specs.declared.items.Cursor.{Cursor}
use Rattle.commands.specs.declared.items.Item.{Item}
use Rattle.commands.specs.declared.replies.Reply.TheVariants as reply
use Rattle.ledger.specs.Ledger.{Did}
use Rattle.ledger.specs.Replies.{Answer}
use Rattle.ledger.specs.JourneyChanges.{cursor_after}

-- journey j, which has this plan and is here, makes this item, and the reply says where it is then
abbrev pub moves : ℕ → Planned → Cursor → Item → Answer
moves j plan c next =
    let then : Cursor = cursor_after plan c next in
    record { event = Some (Did j next); reply = reply.Moved j next then.pos then.phase }
