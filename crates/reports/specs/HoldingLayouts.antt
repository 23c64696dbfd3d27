-- The report of the holders of cells in each format.
use Rattle.std.specs.Prelude.{ℕ, List, [], ◌∷◌, codes, decimal}
use Rattle.allotment.specs.Nights.{night_text}
use Rattle.allotment.specs.Texts.{kind_word}
use Rattle.allotment.specs.declared.cells.Cell.{Cell}
use Rattle.commands.specs.Texts.{sentence}
use Rattle.saga_core.specs.JourneyFilters.{state_word}
use Rattle.serde_json.specs.Data.{Data}
use Rattle.reports.specs.Columns.{left, right, line}
use Rattle.reports.specs.Objects.{json_line}
use Rattle.commands.specs.Objects.{json, counts, says}
use Rattle.reports.specs.Records.{csv_line}
use Rattle.saga_core.specs.declared.report.Format.{Format}
use Rattle.saga_core.specs.declared.report.Format.TheVariants.{Text, Json, Csv}
use Rattle.reports.specs.HolderLayouts.{rows_in}
use Rattle.reports.specs.declared.holdings.Holding.{Holding}

-- the columns of a cell
abbrev pub cell_columns : Cell → List ℕ
cell_columns x =
    sentence (night_text x.night ∷ left 8 (kind_word x.kind) ∷ left 8 x.supplier ∷ left 8 x.product ∷ [])

-- eight columns: a night, then kind, supplier and product on the left, the journey on the right, its agent and state on
-- the left, and places on the right
abbrev pub holding_columns :
    List ℕ → List ℕ → List ℕ → List ℕ → List ℕ → List ℕ → List ℕ → List ℕ → List ℕ
holding_columns night kind supplier product journey agent state places =
    line
    (night ∷ left 8 kind ∷ left 8 supplier ∷ left 8 product ∷ right 12 journey ∷ left 16 agent ∷ left 6 state
    ∷ right 6 places ∷ [])

-- the heading: the names of the columns
abbrev pub holding_heading : List ℕ
holding_heading =
    holding_columns (left 10 (codes "night")) (codes "kind") (codes "supplier") (codes "product") (codes "journey")
    (codes "agent") (codes "state") (codes "places")

-- the line of a holder
abbrev pub holding_line : Holding → List ℕ
holding_line h =
    holding_columns (night_text h.cell.night) (kind_word h.cell.kind) h.cell.supplier h.cell.product
    (decimal h.journey) h.agent (state_word h.state) (decimal h.places)

-- the same as an object
abbrev pub holding_data : Holding → Data
holding_data h =
    json (says (codes "agent") h.agent ∷ counts (codes "journey") h.journey ∷ says (codes "kind") (kind_word h.cell.kind)
    ∷ says (codes "night") (night_text h.cell.night) ∷ counts (codes "places") h.places
    ∷ says (codes "product") h.cell.product ∷ says (codes "state") (state_word h.state)
    ∷ says (codes "supplier") h.cell.supplier ∷ [])

-- the columns in a CSV file, and the fields of a holder
abbrev pub holding_names : List (List ℕ)
holding_names =
    codes "night" ∷ codes "kind" ∷ codes "supplier" ∷ codes "product" ∷ codes "journey" ∷ codes "agent" ∷ codes "state"
    ∷ codes "places" ∷ []

abbrev pub holding_fields : Holding → List (List ℕ)
holding_fields h =
    night_text h.cell.night ∷ kind_word h.cell.kind ∷ h.cell.supplier ∷ h.cell.product ∷ decimal h.journey ∷ h.agent
    ∷ state_word h.state ∷ decimal h.places ∷ []

-- the heading of the report
abbrev pub holdings_head : Format → List ℕ
holdings_head Text = holding_heading
holdings_head Json = []
holdings_head Csv = csv_line holding_names

-- the line of a holder in a format
abbrev pub holding_row : Format → Holding → List ℕ
holding_row Text h = holding_line h
holding_row Json h = json_line (holding_data h)
holding_row Csv h = csv_line (holding_fields h)

-- the report
abbrev pub holdings_shown : Format → List Holding → List ℕ
holdings_shown format rows = rows_in (holdings_head format) (holding_row format) format rows
