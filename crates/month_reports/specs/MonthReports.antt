-- The reports by month: what stands before the months, the months, and what stands after so many of them.
use Rattle.std.specs.Prelude.{◌+◌, ◌≤◌, ℕ, List, [], ◌++◌, length, codes, Option, Result}
use Rattle.std.specs.List.{flat_map}
use Rattle.saga_core.specs.declared.cell_filters.CellFilter.{CellFilter}
use Rattle.reports.specs.Formats.{last_line}
use Rattle.reports.specs.Writing.{WritesCounted}
use Rattle.reports.specs.declared.faults.ReportFault.{ReportFault}
use Rattle.saga_core.specs.declared.report.Format.TheVariants.{Text}
use Rattle.saga_core.specs.declared.row_sources.RowSource.{Ghosts}
use Rattle.month_reports.specs.Calendars.{calendar_head, calendar_row}
use Rattle.month_reports.specs.Months.{asked_of, AskedRest, months_of, Places}
use Rattle.month_reports.specs.Summaries.{summary_head, summary_row}
use Rattle.saga_core.specs.declared.report.MonthReport.{MonthReport}
use Rattle.saga_core.specs.declared.report.MonthReport.TheVariants.{Summary, Calendar}

-- what comes before the months
abbrev pub months_head : MonthReport → List ℕ
months_head (Summary format) = summary_head format
months_head Calendar = calendar_head

-- the text of a month
abbrev pub month_shown : MonthReport → List Places → List ℕ
month_shown (Summary format) month = summary_row format month
month_shown Calendar month = calendar_row month

-- what comes after so many months
abbrev pub months_end : MonthReport → ℕ → List ℕ
months_end (Summary format) count = last_line format (codes "months") count
months_end Calendar count = last_line Text (codes "months") count

-- the months of the cells that are asked for
abbrev pub asked_months : CellFilter → List Places → List (List Places)
asked_months f rows = months_of (asked_of f rows)

-- the report of these months
abbrev pub months_in : MonthReport → List (List Places) → List ℕ
months_in report months =
    months_head report ++ flat_map (month_shown report) months ++ months_end report (length months)

module _ {R : Type 0} (source : Ghosts R Places) (old new : R) where
  -- this text of the months of all cells that are asked for was written, and they were counted, each with a cell of its own; at a
  -- fault a prefix of the text was written
  abbrev pub WritesMonths : CellFilter → (List (List Places) → List ℕ)
      → Option (List ℕ) → Option (List ℕ) → Result ℕ ReportFault → Type 0
  WritesMonths f text held holds result =
      WritesCounted source old new (λ all. text (asked_months f all)) (λ all. length (asked_months f all))
      (λ count. count + source.given old ≤ source.given new) (AskedRest f (source.rests new) []) held holds result
