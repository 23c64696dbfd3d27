-- The reports in each format: what stands before the rows, the rows, and what stands after so many of them.
use Rattle.std.specs.Prelude.{ℕ, List, [], ◌++◌, length, codes}
use Rattle.std.specs.List.{flat_map}
use Rattle.allotment.specs.declared.cells.Cell.{Cell}
use Rattle.allotment.specs.declared.places.Held.{Held}
use Rattle.commands.specs.declared.items.Item.{Item}
use Rattle.saga_core.specs.declared.records.Brief.{Brief}
use Rattle.saga_core.specs.declared.records.Record.{Record}
use Rattle.reports.specs.Layouts.{count_line, stock_heading, stock_line, journey_line, history_report}
use Rattle.reports.specs.Objects.{json_line, cell_data, journey_data, begin_data, item_data, state_data}
use Rattle.reports.specs.Records.{csv_line, cell_names, cell_fields, journey_names, journey_fields, item_names, item_fields}
use Rattle.saga_core.specs.declared.report.Format.{Format}
use Rattle.saga_core.specs.declared.report.JourneyReport.{JourneyReport}
use Rattle.saga_core.specs.declared.report.JourneyReport.TheVariants.{Unfinished, Journeys}
use Rattle.saga_core.specs.declared.report.Format.TheVariants.{Text, Json, Csv}

-- the last line: a text says how many rows there are, a JSON or CSV report has no such line
abbrev pub last_line : Format → List ℕ → ℕ → List ℕ
last_line Text what count = count_line what count
last_line Json what count = []
last_line Csv what count = []

-- the heading of the stock report
abbrev pub stock_head : Format → List ℕ
stock_head Text = stock_heading
stock_head Json = []
stock_head Csv = csv_line cell_names

-- the line of a cell
abbrev pub stock_row : Format → Cell × Held → List ℕ
stock_row Text row = stock_line row
stock_row Json row = json_line (cell_data row)
stock_row Csv row = csv_line (cell_fields row)

-- the stock report: for Text it is `stock_report`
abbrev pub stock_in : Format → List (Cell × Held) → List ℕ
stock_in format rows =
    stock_head format ++ flat_map (stock_row format) rows ++ last_line format (codes "cells") (length rows)

-- the heading of the report of unfinished journeys
abbrev pub unfinished_head : Format → List ℕ
unfinished_head Text = []
unfinished_head Json = []
unfinished_head Csv = csv_line journey_names

-- the line of an unfinished journey
abbrev pub unfinished_row : Format → Brief → List ℕ
unfinished_row Text brief = journey_line brief
unfinished_row Json brief = json_line (journey_data brief)
unfinished_row Csv brief = csv_line (journey_fields brief)

-- the report of unfinished journeys: for Text it is `unfinished_report`
abbrev pub unfinished_in : Format → List Brief → List ℕ
unfinished_in format rows =
    unfinished_head format ++ flat_map (unfinished_row format) rows
    ++ last_line format (codes "unfinished") (length rows)

-- the word of the last line of a report of journeys
abbrev pub name_word : JourneyReport → List ℕ
name_word Unfinished = codes "unfinished"
name_word Journeys = codes "journeys"

-- the report of journeys of this name: the same lines, whether the journeys have ended or not
abbrev pub journeys_in : JourneyReport → Format → List Brief → List ℕ
journeys_in name format rows =
    unfinished_head format ++ flat_map (unfinished_row format) rows
    ++ last_line format (name_word name) (length rows)

-- the history of a journey: in JSON a line with its agent and plan, a line for each item, and a line with where it is;
-- in CSV a record for each item
abbrev pub history_in : Format → ℕ → Record → List Item → List ℕ
history_in Text id journey items = history_report id journey items
history_in Json id journey items =
    json_line (begin_data id journey)
    ++ flat_map (λ item. json_line (item_data id item)) items
    ++ json_line (state_data id journey.cursor)
history_in Csv id journey items =
    csv_line item_names ++ flat_map (λ item. csv_line (item_fields id item)) items
