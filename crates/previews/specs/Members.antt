-- The members of the object of a preview, inserted one after another. For the value that is built so.
use Rattle.std.specs.Prelude.{codes, Option, Some, None}
use Rattle.serde_json.specs.Data.{Members, put, string}
use Rattle.allotment.specs.Texts.{want_text}
use Rattle.commands.specs.Texts.{item_text}
use Rattle.commands.specs.Members.{with_standing}
use Rattle.saga_core.specs.declared.records.Brief.{Brief}
use Rattle.previews.specs.declared.steps.NextStep.{NextStep}

-- members with whose a journey is, and where it is
abbrev pub with_brief : Brief → Members → Members
with_brief b ms = with_standing b.id b.cursor.pos b.cursor.phase (put (codes "agent") (string b.agent) ms)

-- members with the item of the next step, and its want
abbrev pub with_next : Option NextStep → Members → Members
with_next None ms = ms
with_next (Some next) ms =
    put (codes "want") (string (want_text next.want)) (put (codes "next") (string (item_text next.item)) ms)
