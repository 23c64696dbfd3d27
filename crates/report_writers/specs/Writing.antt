-- What the reports write of a desk, and when that is known.
use Rattle.std.specs.Prelude.{◌≡◌, ◌==◌, ◌&&◌, ◌+◌, ℕ, Bool, true, false, List, filter, length, Option, None, Some, Result, IfOk, IsErrOf, OnOk}
use Rattle.std.specs.List.{flat_map}
use Rattle.std.specs.Io.KnownBytes.{Appends, Keeps}
use Rattle.sqlite.specs.Store.{Ghosts}
use Rattle.sqlite.specs.Held.{Held, state}
use Rattle.sqlite.specs.State.{HasCleanDisk}
use Rattle.allotment.specs.Cells.{kind_number}
use Rattle.allotment.specs.declared.cells.Cell.{Cell}
use Rattle.allotment.specs.declared.codes.Kind.{Kind}
use Rattle.allotment.specs.declared.places.Held.{Held as Places}
use Rattle.desk_sql.specs.Calls.{Quiet}
use Rattle.desk_sql.specs.Causes.{HasFaulted, IsUp}
use Rattle.desk_sql.specs.declared.versions.Version.{Version}
use Rattle.ledger.specs.Answer.{State}
use Rattle.saga_core.specs.CellFilters.{is_cell_asked}
use Rattle.saga_core.specs.JourneyFilters.{asked_of}
use Rattle.saga_core.specs.declared.cell_filters.CellFilter.{CellFilter}
use Rattle.saga_core.specs.declared.journey_filters.JourneyFilter.{JourneyFilter}
use Rattle.saga_core.specs.Views.{IsStock}
use Rattle.reports.specs.Formats.{journeys_in, stock_row}
use Rattle.reports.specs.declared.faults.ReportFault.{ReportFault}
use Rattle.reports.specs.declared.faults.ReportFault.TheVariants.{Store}
use Rattle.saga_core.specs.declared.report.Format.{Format}
use Rattle.saga_core.specs.declared.report.JourneyReport.{JourneyReport}
use Rattle.saga_core.specs.Written.{WroteFront}
use Rattle.sql_model.specs.Keeping.{KeepsIn}
use Rattle.sql_model.specs.Spelling.{IsSpelled}
use Rattle.sql_model.specs.Standing.{IsDesk}
pub use Rattle.sql_reads.specs.Reads.{AnyDesk}

module _ {S : Type 0} (g : Ghosts S) where
  -- Of each desk that the connection kept in tables of this version this is shown, if the desk fits; and if its agents have the form
  -- of one, the call fails so only where the disk of a store that was up failed or refused. The connection was only read.
  pub record ShowsIn (v : Version) (old new : Held S) (Fails : Type 0) (Fits IsShown : State → Type 0) : Type 0 where
    pub told : HasCleanDisk (state g new) → (s : State) → IsDesk s → KeepsIn v (state g old) s → Fits s → IsShown s
    pub reason : HasCleanDisk (state g new) → (s : State) → IsDesk s → IsSpelled s.ledger → KeepsIn v (state g old) s → Fits s
        → IsUp (state g old) → Fails → HasFaulted (state g old) (state g new)
    pub quiet : Quiet g old new

  -- the same, of each desk that it kept in tables of any version
  abbrev pub ShowsDesk : (old new : Held S) → Type 0 → (State → Type 0) → Type 0
  ShowsDesk old new Fails IsShown = (v : Version) → ShowsIn v old new Fails AnyDesk IsShown

-- those of one kind
abbrev pub cells_of_kind : Kind → CellFilter → List (Cell × Places) → List (Cell × Places)
cells_of_kind kind f rows =
    filter (λ (r : Cell × Places). is_cell_asked f r.0 && (kind_number r.0.kind == kind_number kind)) rows

module _ (held holds : Option (List ℕ)) where
  -- a prefix of the text was written, and the whole text if there was no fault
  pub record WritesText (text : List ℕ) {T : Type 0} (result : Result T ReportFault) : Type 0 where
    pub whole : OnOk result (Appends held holds text)
    pub front : WroteFront held holds text

  -- the text of a report was written, and there is one; or there is none, and nothing was written
  abbrev pub WritesIfThere : Option (List ℕ) → Result Bool ReportFault → Type 0
  WritesIfThere (Some text) result = IfOk result (λ there. there ≡ true) × WritesText text result
  WritesIfThere None result = IfOk result (λ there. there ≡ false) × Keeps held holds

  -- the lines of these cells were written and counted after so many before, or a prefix of them
  pub record WritesCells (format : Format) (cells : List (Cell × Places)) (before : ℕ) (result : Result ℕ ReportFault) : Type 0 where
    pub whole : OnOk result (Appends held holds (flat_map (stock_row format) cells))
    pub front : WroteFront held holds (flat_map (stock_row format) cells)
    pub counted : IfOk result (λ n. n ≡ length cells + before)

  -- the report of the journeys that are asked for, in order of number
  abbrev pub WritesJourneys : {T : Type 0} → JourneyReport → Format → JourneyFilter
      → Result T ReportFault → State → Type 0
  WritesJourneys name format f result s = WritesText (journeys_in name format (asked_of f s.ledger)) result

-- of each stock that the connection kept, the lines of such cells were written and counted; the connection was only read
abbrev pub ShowsCells : {S : Type 0} → Ghosts S → Held S → Held S → Option (List ℕ) → Option (List ℕ) → Format
    → (List (Cell × Places) → List (Cell × Places)) → ℕ → Result ℕ ReportFault → Type 0
ShowsCells g old new held holds format asked before result =
    ShowsDesk g old new (IsErrOf result Store) (λ s. (all : List (Cell × Places)) → IsStock s.ledger all
    → WritesCells held holds format (asked all) before result)
