-- The report of a preview in each format: its head, a row for each night of the next want, and its ending.
use Rattle.std.specs.Prelude.{ℕ, List, [], ◌∷◌, ◌++◌, codes, decimal, map, Option, Some, None}
use Rattle.std.specs.List.{flat_map}
use Rattle.serde_json.specs.Data.{Data, array}
use Rattle.serde_json.specs.View.{items_of}
use Rattle.allotment.specs.Nights.{night_text}
use Rattle.allotment.specs.Texts.{want_text}
use Rattle.commands.specs.Texts.{item_text, phase_word}
use Rattle.commands.specs.declared.items.Item.{Item}
use Rattle.ledger.specs.Ledger.{Event, Journey}
use Rattle.saga_core.specs.declared.records.Brief.{Brief}
use Rattle.reports.specs.Columns.{line}
use Rattle.reports.specs.Layouts.{history_ending}
use Rattle.reports.specs.Objects.{json_line, journey_data}
use Rattle.commands.specs.Objects.{Named, json, counts, says, target_member}
use Rattle.reports.specs.Records.{csv_line, journey_names, journey_fields}
use Rattle.saga_core.specs.declared.report.Format.{Format}
use Rattle.saga_core.specs.declared.report.Format.TheVariants.{Text, Json, Csv}
use Rattle.previews.specs.Previews.{nights_ahead, preview_of}
use Rattle.previews.specs.declared.nights.FreeNight.{FreeNight}
use Rattle.previews.specs.declared.steps.NextStep.{NextStep}
use Rattle.previews.specs.declared.steps.Preview.{Preview}

-- the item that a step makes, or `none` if no step is left
abbrev pub step_word : Option Item → List ℕ
step_word None = codes "none"
step_word (Some item) = item_text item

-- As a text.

-- the journey and its agent, and where it is
abbrev pub brief_lines : Brief → List ℕ
brief_lines b =
    line (codes "journey" ∷ decimal b.id ∷ codes "agent" ∷ b.agent ∷ []) ++ history_ending b.cursor

-- the item of the next step, and its want
abbrev pub next_line : Option NextStep → List ℕ
next_line None = []
next_line (Some next) = line (codes "next" ∷ item_text next.item ∷ want_text next.want ∷ [])

-- what is free of a night
abbrev pub free_words : Option ℕ → List (List ℕ)
free_words None = codes "unallotted" ∷ []
free_words (Some free) = codes "free" ∷ decimal free ∷ []

abbrev pub night_line : FreeNight → List ℕ
night_line n = line (codes "night" ∷ night_text n.night ∷ free_words n.free)

-- what a step makes
abbrev pub step_line : Option Item → List ℕ
step_line step = line (codes "step" ∷ step_word step ∷ [])

-- As objects.

abbrev pub next_object : ℕ → Option NextStep → List ℕ
next_object id None = []
next_object id (Some next) =
    json_line (json (counts (codes "journey") id ∷ says (codes "next") (item_text next.item)
    ∷ says (codes "want") (want_text next.want) ∷ []))

-- a night that is not allotted has no member `free`
abbrev pub night_data : ℕ → ℕ → Option ℕ → Data
night_data id night None = json (counts (codes "journey") id ∷ says (codes "night") (night_text night) ∷ [])
night_data id night (Some free) =
    json (counts (codes "free") free ∷ counts (codes "journey") id ∷ says (codes "night") (night_text night) ∷ [])

abbrev pub step_data : ℕ → Option Item → Data
step_data id step = json (counts (codes "journey") id ∷ says (codes "step") (step_word step) ∷ [])

-- As one object.

-- the item of the next step, and its want; nothing if there is none
abbrev pub next_member : Option NextStep → List Named
next_member None = []
next_member (Some next) = says (codes "next") (item_text next.item) ∷ []

abbrev pub want_member : Option NextStep → List Named
want_member None = []
want_member (Some next) = says (codes "want") (want_text next.want) ∷ []

-- a night and what is free of it, if it is allotted
abbrev pub free_data : ℕ → Option ℕ → Data
free_data night None = json (says (codes "night") (night_text night) ∷ [])
free_data night (Some free) = json (counts (codes "free") free ∷ says (codes "night") (night_text night) ∷ [])

-- the journey, its next want with the nights of it, and what a step makes. The members of an object stand in the order of
-- their names
abbrev pub why_data : Preview → List FreeNight → Data
why_data o nights =
    json (says (codes "agent") o.brief.agent ∷ counts (codes "journey") o.brief.id
    ∷ (next_member o.next ++ (codes "nights", array (items_of (map (λ (n : FreeNight). free_data n.night n.free) nights)))
    ∷ counts (codes "pos") o.brief.cursor.pos ∷ says (codes "state") (phase_word o.brief.cursor.phase)
    ∷ says (codes "step") (step_word o.step) ∷ (target_member o.brief.cursor.phase ++ want_member o.next)))

-- As records.

-- the columns: those of an unfinished journey, the next step with its want, a night and what is free of it, and the step
abbrev pub why_names : List (List ℕ)
why_names =
    journey_names
    ++ codes "next" ∷ codes "want" ∷ codes "night" ∷ codes "free" ∷ codes "step" ∷ []

-- the next step and its want; empty fields if there is none
abbrev pub next_fields : Option NextStep → List (List ℕ)
next_fields None = [] ∷ [] ∷ []
next_fields (Some next) = item_text next.item ∷ want_text next.want ∷ []

-- a night and what is free of it; empty fields if there is no night, and one if the night is not allotted
abbrev pub free_field : Option ℕ → List ℕ
free_field None = []
free_field (Some free) = decimal free

abbrev pub night_fields : Option FreeNight → List (List ℕ)
night_fields None = [] ∷ [] ∷ []
night_fields (Some n) = night_text n.night ∷ free_field n.free ∷ []

-- a record
abbrev pub why_fields : Preview → Option FreeNight → List (List ℕ)
why_fields o night =
    journey_fields o.brief ++ next_fields o.next ++ night_fields night ++ step_word o.step ∷ []

-- The report.

-- what comes before the nights
abbrev pub why_head : Format → Preview → List ℕ
why_head Text o = brief_lines o.brief ++ next_line o.next
why_head Json o = json_line (journey_data o.brief) ++ next_object o.brief.id o.next
why_head Csv o = csv_line why_names

-- the line of a night
abbrev pub why_row : Format → Preview → FreeNight → List ℕ
why_row Text o n = night_line n
why_row Json o n = json_line (night_data o.brief.id n.night n.free)
why_row Csv o n = csv_line (why_fields o (Some n))

-- the record of a journey that has no next step, and so no night
abbrev pub last_record : Preview → Option NextStep → List ℕ
last_record o None = csv_line (why_fields o None)
last_record o (Some next) = []

-- what comes after the nights
abbrev pub why_ending : Format → Preview → List ℕ
why_ending Text o = step_line o.step
why_ending Json o = json_line (step_data o.brief.id o.step)
why_ending Csv o = last_record o o.next

-- the report of a preview with these nights
abbrev pub why_in : Format → Preview → List FreeNight → List ℕ
why_in format o nights = why_head format o ++ flat_map (why_row format o) nights ++ why_ending format o

-- the report of why a journey of a ledger goes on or does not
abbrev pub why_of : Format → List Event → ℕ → Journey → List ℕ
why_of format l j a = let o = preview_of l j a in why_in format o (nights_ahead l o.next)
