-- The summary of a month: how many nights it has, and the sums of their places, as a text, as JSON and as CSV.
use Rattle.std.specs.Prelude.{ℕ, List, [], ◌∷◌, take, length, codes, decimal}
use Rattle.std.specs.List.{sum_by}
use Rattle.allotment.specs.Nights.{night_text}
use Rattle.allotment.specs.Places.{held_of}
use Rattle.allotment.specs.Texts.{kind_word}
use Rattle.allotment.specs.declared.cells.Cell.{Cell}
use Rattle.serde_json.specs.Data.{Data}
use Rattle.commands.specs.Texts.{sentence}
use Rattle.reports.specs.Columns.{left, right, line}
use Rattle.reports.specs.Objects.{json_line}
use Rattle.commands.specs.Objects.{json, counts, says}
use Rattle.reports.specs.Records.{csv_line}
use Rattle.saga_core.specs.declared.report.Format.{Format}
use Rattle.saga_core.specs.declared.report.Format.TheVariants.{Text, Json, Csv}
use Rattle.month_reports.specs.Months.{Places}
use Rattle.month_reports.specs.declared.sums.Sums.{Sums}

-- how many nights a month has, and how many places are allotted, held and free in all of them
abbrev pub sums_of : List Places → Sums
sums_of month =
    record {
      nights = length month;
      allot = sum_by (λ (row : Places). row.1.allot) month;
      held = sum_by (λ (row : Places). held_of row.1) month;
      free = sum_by (λ (row : Places). row.1.free) month;
    }

-- the text of a night's month: `YYYY-MM`
abbrev pub month_text : ℕ → List ℕ
month_text night = take 7 (night_text night)

-- the columns of a product, and those of sums
abbrev pub product_columns : Cell → List ℕ
product_columns cell =
    sentence (left 8 (kind_word cell.kind) ∷ left 8 cell.supplier ∷ left 8 cell.product ∷ [])

abbrev pub sums_columns : Sums → List ℕ
sums_columns sums =
    sentence
    (right 6 (decimal sums.nights) ∷ right 8 (decimal sums.allot) ∷ right 8 (decimal sums.held)
    ∷ right 8 (decimal sums.free) ∷ [])

-- the line of a month with these sums, of which a cell is this one
abbrev pub summary_line : Cell → Sums → List ℕ
summary_line cell sums = line (product_columns cell ∷ month_text cell.night ∷ sums_columns sums ∷ [])

-- the same as an object
abbrev pub summary_data : Cell → Sums → Data
summary_data cell sums =
    json (counts (codes "allot") sums.allot ∷ counts (codes "free") sums.free
    ∷ counts (codes "held") sums.held ∷ says (codes "kind") (kind_word cell.kind)
    ∷ says (codes "month") (month_text cell.night) ∷ counts (codes "nights") sums.nights
    ∷ says (codes "product") cell.product ∷ says (codes "supplier") cell.supplier ∷ [])

-- the heading of a text: the names of the columns
abbrev pub summary_heading : List ℕ
summary_heading =
    line
    (left 8 (codes "kind") ∷ left 8 (codes "supplier") ∷ left 8 (codes "product") ∷ left 7 (codes "month")
    ∷ right 6 (codes "nights") ∷ right 8 (codes "allot") ∷ right 8 (codes "held") ∷ right 8 (codes "free") ∷ [])

-- the columns of a month in a CSV file, and its fields
abbrev pub summary_names : List (List ℕ)
summary_names =
    codes "kind" ∷ codes "supplier" ∷ codes "product" ∷ codes "month" ∷ codes "nights" ∷ codes "allot" ∷ codes "held"
    ∷ codes "free" ∷ []

abbrev pub summary_fields : Cell → Sums → List (List ℕ)
summary_fields cell sums =
    kind_word cell.kind ∷ cell.supplier ∷ cell.product ∷ month_text cell.night ∷ decimal sums.nights
    ∷ decimal sums.allot ∷ decimal sums.held ∷ decimal sums.free ∷ []

-- the heading of a summary in each format
abbrev pub summary_head : Format → List ℕ
summary_head Text = summary_heading
summary_head Json = []
summary_head Csv = csv_line summary_names

-- the line in each format
abbrev pub summary_shown : Format → Cell → Sums → List ℕ
summary_shown Text cell sums = summary_line cell sums
summary_shown Json cell sums = json_line (summary_data cell sums)
summary_shown Csv cell sums = csv_line (summary_fields cell sums)

-- the line of a month
abbrev pub summary_row : Format → List Places → List ℕ
summary_row format [] = []
summary_row format (row ∷ later) = summary_shown format row.0 (sums_of (row ∷ later))
