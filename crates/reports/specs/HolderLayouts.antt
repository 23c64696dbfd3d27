-- The report of the holders of a cell in each format.
use Rattle.std.specs.Prelude.{ℕ, List, [], ◌∷◌, ◌++◌, length, codes, decimal}
use Rattle.std.specs.List.{flat_map}
use Rattle.serde_json.specs.Data.{Data}
use Rattle.reports.specs.Columns.{right, line}
use Rattle.reports.specs.Formats.{last_line}
use Rattle.reports.specs.Objects.{json_line}
use Rattle.commands.specs.Objects.{json, counts}
use Rattle.reports.specs.Records.{csv_line}
use Rattle.saga_core.specs.declared.report.Format.{Format}
use Rattle.saga_core.specs.declared.report.Format.TheVariants.{Text, Json, Csv}
use Rattle.reports.specs.declared.holders.Holder.{Holder}

-- four columns on the right: journey, step, option and places
abbrev pub holder_columns : List ℕ → List ℕ → List ℕ → List ℕ → List ℕ
holder_columns journey step option places =
    line (right 12 journey ∷ right 6 step ∷ right 6 option ∷ right 6 places ∷ [])

-- the heading: the names of the columns
abbrev pub holder_heading : List ℕ
holder_heading = holder_columns (codes "journey") (codes "step") (codes "option") (codes "places")

-- the line of a holder
abbrev pub holder_line : Holder → List ℕ
holder_line h = holder_columns (decimal h.journey) (decimal h.step) (decimal h.option) (decimal h.places)

-- the same as an object
abbrev pub holder_data : Holder → Data
holder_data h =
    json (counts (codes "journey") h.journey ∷ counts (codes "option") h.option ∷ counts (codes "places") h.places
    ∷ counts (codes "step") h.step ∷ [])

-- the columns of a holder in a CSV file, and its fields
abbrev pub holder_names : List (List ℕ)
holder_names = codes "journey" ∷ codes "step" ∷ codes "option" ∷ codes "places" ∷ []

abbrev pub holder_fields : Holder → List (List ℕ)
holder_fields h = decimal h.journey ∷ decimal h.step ∷ decimal h.option ∷ decimal h.places ∷ []

-- what comes before the holders
abbrev pub holders_head : Format → List ℕ
holders_head Text = holder_heading
holders_head Json = []
holders_head Csv = csv_line holder_names

-- the line of a holder in each format
abbrev pub holder_row : Format → Holder → List ℕ
holder_row Text h = holder_line h
holder_row Json h = json_line (holder_data h)
holder_row Csv h = csv_line (holder_fields h)

-- a report of rows: its heading, the line of each, and for Text how many there are
abbrev pub rows_in : {T : Type 0} → List ℕ → (T → List ℕ) → Format → List T → List ℕ
rows_in head row format rows =
    head ++ flat_map row rows ++ last_line format (codes "holders") (length rows)

-- the report of these holders
abbrev pub holders_in : Format → List Holder → List ℕ
holders_in format rows = rows_in (holders_head format) (holder_row format) format rows
