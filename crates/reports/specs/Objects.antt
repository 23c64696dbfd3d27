-- The rows of reports as JSON objects, each on a line. The members of an object stand in the order of their names.
use Rattle.std.specs.Prelude.{ℕ, List, [], ◌∷◌, ◌++◌, codes}
use Rattle.serde_json.specs.Data.{Data}
use Rattle.serde_json.specs.Written.{compact_text}
use Rattle.allotment.specs.Nights.{night_text}
use Rattle.allotment.specs.Places.{held_of}
use Rattle.allotment.specs.Texts.{kind_word, line_feed}
use Rattle.allotment.specs.declared.cells.Cell.{Cell}
use Rattle.allotment.specs.declared.places.Held.{Held}
use Rattle.commands.specs.Texts.{item_text}
use Rattle.commands.specs.declared.items.Cursor.{Cursor}
use Rattle.commands.specs.declared.items.Item.{Item}
use Rattle.commands.specs.Objects.{counts, json, says, standing_members}
use Rattle.plan.specs.PlanLine.{plan_line}
use Rattle.saga_core.specs.declared.records.Brief.{Brief}
use Rattle.saga_core.specs.declared.records.Record.{Record}

-- the line of a value: its compact text, and a line feed
abbrev pub json_line : Data → List ℕ
json_line value = compact_text value ++ line_feed ∷ []

-- a cell with its allotted, held and free places
abbrev pub cell_data : Cell × Held → Data
cell_data row =
    let cell = row.0 in
    let places = row.1 in
    json (counts (codes "allot") places.allot ∷ counts (codes "free") places.free
    ∷ counts (codes "held") (held_of places) ∷ says (codes "kind") (kind_word cell.kind)
    ∷ says (codes "night") (night_text cell.night) ∷ says (codes "product") cell.product
    ∷ says (codes "supplier") cell.supplier ∷ [])

-- an unfinished journey
abbrev pub journey_data : Brief → Data
journey_data brief = json (says (codes "agent") brief.agent ∷ standing_members brief.id brief.cursor.pos brief.cursor.phase)

-- the journey of a history, with its plan
abbrev pub begin_data : ℕ → Record → Data
begin_data id journey =
    json (says (codes "agent") journey.agent ∷ counts (codes "journey") id
    ∷ says (codes "plan") (plan_line journey.plan) ∷ [])

-- an item of a history
abbrev pub item_data : ℕ → Item → Data
item_data id item = json (says (codes "item") (item_text item) ∷ counts (codes "journey") id ∷ [])

-- where the journey of a history is
abbrev pub state_data : ℕ → Cursor → Data
state_data id cursor = json (standing_members id cursor.pos cursor.phase)
