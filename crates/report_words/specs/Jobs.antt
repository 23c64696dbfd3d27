-- The report of a job, and that of the values which a subcommand reads.
use Rattle.std.specs.Prelude.{ℕ, bytes_eq, is_some, if◌then◌else◌, codes, Option, None, Some, option_map}
use Rattle.std.specs.Option.{option_and_then}
use Rattle.std.specs.String.{string_bytes}
use Rattle.allotment.specs.Nights.{night_in}
use Rattle.allotment.specs.Texts.{kind_of_word, number_from}
use Rattle.clap.specs.Words.{Text}
use Rattle.command_line.specs.Filters.{agent_named, cell_asked, code_named, journey_asked, phases_in, spelled, unfinished_in}
use Rattle.command_line.specs.Values.{calendar_in, format_in}
use Rattle.command_line.specs.declared.jobs.Job.{Job}
use Rattle.command_line.specs.declared.jobs.Job.TheVariants as job
use Rattle.commands.specs.Limits.{most_events}
use Rattle.saga_core.specs.declared.cell_filters.CellFilter.{CellFilter}
use Rattle.saga_core.specs.declared.journey_filters.JourneyFilter.{JourneyFilter}
use Rattle.saga_core.specs.declared.journey_filters.Phases.{Phases}
use Rattle.saga_core.specs.declared.journey_filters.Phases.TheVariants.{All}
use Rattle.saga_core.specs.declared.report.MonthReport.TheVariants.{Summary, Calendar}
use Rattle.saga_core.specs.declared.report.Format.{Format}
use Rattle.saga_core.specs.declared.report.JourneyReport.TheVariants as name
use Rattle.saga_core.specs.declared.report.Report.{Report}
use Rattle.saga_core.specs.declared.report.Report.TheVariants.{Stock, Journeys, Holders, Holdings, Months, History, Why}

-- the history of the journey that a word names, if it is the number of one
abbrev pub history_of : Format → Text → Option Report
history_of format word = option_map (λ (id : ℕ). History id format) (number_from 1 most_events word)

-- the report of a job; none of a job that does something else
abbrev pub report_of : Job → Option Report
report_of (job.Stock file f format) = Some (Stock f format)
report_of (job.Calendar file f) = Some (Months Calendar f)
report_of (job.Summary file f format) = Some (Months (Summary format) f)
report_of (job.Holders file x format) = Some (Holders x format)
report_of (job.Holdings file f format) = Some (Holdings f format)
report_of (job.Unfinished file f format) = Some (Journeys name.Unfinished f format)
report_of (job.Journeys file f format) = Some (Journeys name.Journeys f format)
report_of (job.History file id format) = history_of format (string_bytes id)
report_of (job.Why file id format) = Some (Why id format)
report_of _ = None

-- what a word spells, if a word is given that spells something
abbrev pub known : {X : Type 0} → Option (Option X) → Option X
known (Some found) = found
known None = None

-- the cells that are asked for
abbrev pub cells_of : (Text → Option Text) → CellFilter
cells_of value = record {
  kind = known (spelled kind_of_word (value (codes "KIND")));
  supplier = known (spelled code_named (value (codes "SUPPLIER")));
  product = known (spelled code_named (value (codes "PRODUCT")));
  from = known (spelled night_in (value (codes "FROM")));
  to = known (spelled night_in (value (codes "TO")));
}

-- the phases that were read, or all
abbrev pub phases_or_all : Option Phases → Phases
phases_or_all (Some phases) = phases
phases_or_all None = All

-- the journeys that are asked for, whose phases are read so
abbrev pub journeys_of : (Option Text → Option Phases) → (Text → Option Text) → JourneyFilter
journeys_of reads value = record {
  agent = known (spelled agent_named (value (codes "AGENT")));
  phases = phases_or_all (reads (value (codes "STATE")));
}

-- the report of the subcommand of this name with these values in a format, if it has one
abbrev pub report_in : Text → (Text → Option Text) → Format → Option Report
report_in word value format =
    if bytes_eq word (codes "stock") then
    (if calendar_in value then Some (Months Calendar (cells_of value)) else Some (Stock (cells_of value) format))
    else if bytes_eq word (codes "summary") then Some (Months (Summary format) (cells_of value))
    else if bytes_eq word (codes "holders") then
    (if is_some (value (codes "CELL")) then option_map (λ x. Holders x format) (cell_asked value)
    else Some (Holdings (cells_of value) format))
    else if bytes_eq word (codes "unfinished") then Some (Journeys name.Unfinished (journeys_of unfinished_in value) format)
    else if bytes_eq word (codes "journeys") then Some (Journeys name.Journeys (journeys_of phases_in value) format)
    else if bytes_eq word (codes "history") then option_and_then (history_of format) (value (codes "ID"))
    else if bytes_eq word (codes "why") then option_map (λ (id : ℕ). Why id format) (journey_asked value)
    else None

-- the report of the subcommand of this name with these values, if it has one
abbrev pub report_with : Text → (Text → Option Text) → Option Report
report_with word value = option_and_then (report_in word value) (format_in value)
