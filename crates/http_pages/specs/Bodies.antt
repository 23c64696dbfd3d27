-- The bodies of pages as JSON values. The members of an object stand in the order of their names.
use Rattle.std.specs.Prelude.{ℕ, List, [], ◌∷◌, ◌++◌, map, codes, Option, option_map, option_to_list}
use Rattle.serde_json.specs.Data.{Data, string, array}
use Rattle.serde_json.specs.View.{items_of}
use Rattle.commands.specs.Texts.{item_text, told}
use Rattle.commands.specs.declared.items.Cursor.{Cursor}
use Rattle.commands.specs.declared.items.Item.{Item}
use Rattle.commands.specs.declared.items.Phase.{Phase}
use Rattle.commands.specs.declared.replies.Refusal.{Refusal}
use Rattle.commands.specs.declared.replies.Reply.{Reply}
use Rattle.commands.specs.declared.replies.Reply.TheVariants.{Loaded, Begun, Moved, Refused}
use Rattle.commands.specs.Objects.{Named, json, standing_members, whole}
use Rattle.saga_core.specs.declared.records.Brief.{Brief}
use Rattle.saga_core.specs.declared.records.Counts.{Counts}
use Rattle.http_pages.specs.declared.bodies.Owners.{Owners}
use Rattle.http_pages.specs.declared.bodies.Owners.TheVariants.{Hidden, Shown}

-- Values.

-- the list of these values
abbrev pub list : List Data → Data
list ds = array (items_of ds)

-- a member, if it has a value
abbrev pub maybe : List ℕ → Option Data → List Named
maybe name value = option_to_list (option_map (λ d. (name, d)) value)

-- Journeys.

-- an item
abbrev pub item_data : Item → Data
item_data item = string (item_text item)

-- a journey with its history
abbrev pub journey_data : ℕ → Cursor → List Item → Data
journey_data id cursor history =
    json ((codes "history", list (map item_data history))
    ∷ standing_members id cursor.pos cursor.phase)

-- the agent whose a journey is, if it is shown
abbrev pub owner_member : Owners → Brief → List Named
owner_member Hidden brief = []
owner_member Shown brief = (codes "agent", string brief.agent) ∷ []

-- a journey without its history
abbrev pub brief_data : Owners → Brief → Data
brief_data owners brief =
    json (owner_member owners brief ++ standing_members brief.id brief.cursor.pos brief.cursor.phase)

-- journeys under this name
abbrev pub listed_data : List ℕ → Owners → List Brief → Data
listed_data name owners briefs = json ((name, list (map (brief_data owners) briefs)) ∷ [])

-- journeys that are not finished
abbrev pub unfinished_data : Owners → List Brief → Data
unfinished_data owners briefs = listed_data (codes "unfinished") owners briefs

-- journeys of one agent, finished ones too
abbrev pub mine_data : Owners → List Brief → Data
mine_data owners briefs = listed_data (codes "mine") owners briefs

-- The desk.

-- how many events, journeys and unfinished journeys there are
abbrev pub health_data : Counts → Data
health_data counts =
    json ((codes "events", whole counts.events) ∷ (codes "journeys", whole counts.journeys)
    ∷ (codes "unfinished", whole counts.unfinished) ∷ [])

-- the agent who asks
abbrev pub agent_data : List ℕ → Data
agent_data agent = json ((codes "agent", string agent) ∷ [])

-- the desk stops
abbrev pub stopping_data : Data
stopping_data = json ((codes "state", string (codes "stopping")) ∷ [])

-- Answers to commands.

-- a refusal: its name and number, and its cause, row and step if it has them
abbrev pub refusal_data : Refusal → Data
refusal_data refusal =
    let t = told refusal in
    json (maybe (codes "cause") (option_map string t.cause)
    ++ ((codes "name", string t.name) ∷ (codes "refused", whole t.number)
    ∷ (maybe (codes "row") (option_map whole t.row)
    ++ maybe (codes "step") (option_map whole t.step))))

-- a batch that was loaded
abbrev pub loaded_data : List ℕ → ℕ → Data
loaded_data name rows = json ((codes "batch", string name) ∷ (codes "rows", whole rows) ∷ [])

-- a journey that is begun
abbrev pub begun_data : ℕ → Data
begun_data id = json ((codes "journey", whole id) ∷ [])

-- a journey that made an item, and where it is now
abbrev pub moved_data : ℕ → Item → ℕ → Phase → Data
moved_data id item pos phase = json ((codes "item", item_data item) ∷ standing_members id pos phase)

-- a reply
abbrev pub reply_data : Reply → Data
reply_data (Loaded name rows) = loaded_data name rows
reply_data (Begun id) = begun_data id
reply_data (Moved id item pos phase) = moved_data id item pos phase
reply_data (Refused refusal) = refusal_data refusal
