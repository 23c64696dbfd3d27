-- Worked examples of what reports show: each is computed by the definitions.
use Rattle.std.specs.Prelude.{◌≡◌, ℕ, List, [], ◌∷◌, true, Option, None, Some, is_some, refl}
use Rattle.saga_core.specs.declared.cell_filters.CellFilter.{CellFilter}
use Rattle.reports.specs.HolderExamples.{two_stays}
use Rattle.month_reports.specs.Examples.{on_1, on_29, on_30}
use Rattle.saga_core.specs.declared.report.Format.TheVariants.{Text}
use Rattle.report_kinds.specs.Texts.{OfReport, asked_cells, report_text}
use Rattle.saga_core.specs.declared.report.Report.TheVariants.{History, Why}

-- the stock from 2030-06-30 on, which is day 22095
abbrev from_30 : CellFilter
from_30 = record { kind = None; supplier = None; product = None; from = Some 22095; to = None }

stock_from_a_night : asked_cells from_30 (on_29 ∷ on_30 ∷ on_1 ∷ []) ≡ on_30 ∷ on_1 ∷ []
stock_from_a_night = refl

-- one journey has begun: there is a report of it, and none of a second one
first_has_a_history : is_some (report_text (History 1 Text) two_stays.ledger []) ≡ true
first_has_a_history = refl

second_has_no_history : report_text (History 2 Text) two_stays.ledger [] ≡ None
second_has_no_history = refl

first_has_a_why : is_some (report_text (Why 1 Text) two_stays.ledger []) ≡ true
first_has_a_why = refl

second_has_no_why : report_text (Why 2 Text) two_stays.ledger [] ≡ None
second_has_no_why = refl

-- what is so of a history is so whatever the stock
history_needs_no_stock : (So : Option (List ℕ) → Type 0) → OfReport (History 2 Text) two_stays.ledger So → So None
history_needs_no_stock So said = said [] tt
