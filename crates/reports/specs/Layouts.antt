-- The layouts of the reports: each is a function of the list of its rows.
use Rattle.std.specs.Prelude.{ℕ, List, [], ◌∷◌, ◌++◌, length, map, codes, decimal}
use Rattle.std.specs.List.{flat_map}
use Rattle.allotment.specs.Nights.{night_text}
use Rattle.allotment.specs.Places.{held_of}
use Rattle.allotment.specs.Texts.{kind_word}
use Rattle.allotment.specs.declared.cells.Cell.{Cell}
use Rattle.allotment.specs.declared.places.Held.{Held}
use Rattle.commands.specs.Texts.{cursor_text, item_text}
use Rattle.commands.specs.declared.items.Cursor.{Cursor}
use Rattle.commands.specs.declared.items.Item.{Item}
use Rattle.plan.specs.PlanLine.{plan_line}
use Rattle.saga_core.specs.declared.records.Brief.{Brief}
use Rattle.saga_core.specs.declared.records.Record.{Record}
use Rattle.reports.specs.Columns.{left, right, line}

-- the last line of a list: a word for its rows, and how many there are
abbrev pub count_line : List ℕ → ℕ → List ℕ
count_line what count = line (what ∷ decimal count ∷ [])

-- Stock.

-- seven columns: kind, supplier, product and night on the left, places on the right
abbrev pub stock_columns :
    List ℕ → List ℕ → List ℕ → List ℕ → List ℕ → List ℕ → List ℕ → List ℕ
stock_columns kind supplier product night allot held free =
    line
    (left 8 kind ∷ left 8 supplier ∷ left 8 product ∷ left 10 night
    ∷ right 6 allot ∷ right 6 held ∷ right 6 free ∷ [])

-- the heading: the names of the columns
abbrev pub stock_heading : List ℕ
stock_heading =
    stock_columns (codes "kind") (codes "supplier") (codes "product") (codes "night")
    (codes "allot") (codes "held") (codes "free")

-- the line of a cell, with its allotted, held and free places
abbrev pub stock_line : Cell × Held → List ℕ
stock_line row =
    let cell = row.0 in
    let places = row.1 in
    stock_columns (kind_word cell.kind) cell.supplier cell.product (night_text cell.night)
    (decimal places.allot) (decimal (held_of places)) (decimal places.free)

-- the stock report: the heading, a line for each cell, and how many cells there are
abbrev pub stock_report : List (Cell × Held) → List ℕ
stock_report rows =
    stock_heading ++ flat_map stock_line rows ++ count_line (codes "cells") (length rows)

-- Unfinished journeys.

-- the line of a journey: its number, its agent, and its position and phase
abbrev pub journey_line : Brief → List ℕ
journey_line brief =
    line (right 12 (decimal brief.id) ∷ left 16 brief.agent ∷ cursor_text brief.cursor ∷ [])

-- the report of unfinished journeys: a line for each, and how many there are
abbrev pub unfinished_report : List Brief → List ℕ
unfinished_report rows = flat_map journey_line rows ++ count_line (codes "unfinished") (length rows)

-- The history of a journey.

-- its first two lines: the journey with its agent, and its plan
abbrev pub history_heading : ℕ → Record → List ℕ
history_heading id journey =
    line (codes "journey" ∷ decimal id ∷ codes "agent" ∷ journey.agent ∷ [])
    ++ line (codes "plan" ∷ plan_line journey.plan ∷ [])

-- the last line of a history: the journey's position and phase
abbrev pub history_ending : Cursor → List ℕ
history_ending cursor = line (codes "state" ∷ cursor_text cursor ∷ [])

-- the history of a journey: its agent and plan, one line with all its items, and its position and phase
abbrev pub history_report : ℕ → Record → List Item → List ℕ
history_report id journey items =
    history_heading id journey ++ line (codes "items" ∷ map item_text items)
    ++ history_ending journey.cursor
