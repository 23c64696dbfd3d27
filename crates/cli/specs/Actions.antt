-- What is done for a call: the task of its job over its file, or a report, or the version.
use Rattle.std.specs.Prelude.{◌≡◌, ◌≢◌, ⊤, ℕ, List, [], codes, Option, None, Some}
use Rattle.std.specs.String.{string_bytes}
use Rattle.command_line.specs.declared.asking.Socket.{Socket}
use Rattle.command_line.specs.declared.jobs.Job.{Job}
use Rattle.command_line.specs.declared.jobs.Job.TheVariants as job
use Rattle.command_line.specs.declared.jobs.LogForm.{LogForm as Asked}
use Rattle.command_line.specs.declared.jobs.LogForm.TheVariants as asked
use Rattle.http_log.specs.declared.forms.LogForm.{LogForm}
use Rattle.http_log.specs.declared.forms.LogForm.TheVariants as form
use Rattle.program_jobs.specs.declared.tasks.Source.{Source}
use Rattle.program_jobs.specs.declared.tasks.Source.TheVariants as source
use Rattle.program_jobs.specs.declared.tasks.Task.{Task}
use Rattle.program_jobs.specs.declared.tasks.Task.TheVariants as task
use Rattle.saga_core.specs.declared.report.Report.{Report}
use Rattle.report_words.specs.Jobs.{report_of}
use Rattle.cli.specs.declared.actions.Action.{Action}
use Rattle.cli.specs.declared.actions.Action.TheVariants as action
use Rattle.cli.specs.declared.actions.Served.{Served}

-- the file of a job; the version is of none
abbrev pub file_of : Job → List ℕ
file_of (job.Run file) = string_bytes file
file_of (job.Serve file port connections house page log wide) = string_bytes file
file_of (job.Recover file) = string_bytes file
file_of (job.Load file csv batch) = string_bytes file
file_of (job.Stock file filter format) = string_bytes file
file_of (job.Calendar file filter) = string_bytes file
file_of (job.Summary file filter format) = string_bytes file
file_of (job.Holders file cell format) = string_bytes file
file_of (job.Holdings file filter format) = string_bytes file
file_of (job.Unfinished file filter format) = string_bytes file
file_of (job.Journeys file filter format) = string_bytes file
file_of (job.History file id format) = string_bytes file
file_of (job.Why file id format) = string_bytes file
file_of (job.Migrate file) = string_bytes file
file_of (job.Index file) = string_bytes file
file_of job.Version = []

-- the form of the log, if one is asked for
abbrev pub form_of : Option Asked → Option LogForm
form_of (Some asked.Plain) = Some form.Plain
form_of (Some asked.Timed) = Some form.Timed
form_of None = None

-- a desk serves as its job asks; what is not said is which path its Unix socket has
abbrev pub IsServedAs : Job → Served → Type 0
IsServedAs (job.Serve file port connections house page log wide) served =
    (served.connections ≡ connections) × (served.page ≡ page) × (served.log ≡ form_of log) × (served.wide ≡ wide)
IsServedAs _ served = ⊤

-- the allotment file `-` is the input, and any other word names a file
abbrev pub IsSourceOf : List ℕ → Source → Type 0
IsSourceOf csv source.Input = csv ≡ codes "-"
IsSourceOf csv (source.File name) = (csv ≢ codes "-") × (string_bytes name ≡ csv)

-- the task is the load of such a source under this name
abbrev pub IsLoadOf : (csv name : List ℕ) → Task → Type 0
IsLoadOf csv name (task.Load from batch) = IsSourceOf csv from × (string_bytes batch ≡ name)
IsLoadOf csv name _ = ⊥

-- the task of the action is such a load
abbrev pub IsLoadAction : (csv name : List ℕ) → Action → Type 0
IsLoadAction csv name (action.Do work) = IsLoadOf csv name work
IsLoadAction csv name _ = ⊥

-- a report is written over the file, or asked for at the socket in place of that; words that ask for none are refused
abbrev pub IsReportAction : Option Report → Option Socket → Action → Type 0
IsReportAction None socket a = a ≡ action.Refuse
IsReportAction (Some report) None a = a ≡ action.Do (task.Report report)
IsReportAction (Some report) (Some socket) a = a ≡ action.Ask

-- what is done for a job, whose words may name a socket
abbrev pub IsActionOf : Job → Option Socket → Action → Type 0
IsActionOf (job.Run file) socket a = a ≡ action.Do task.Run
IsActionOf (job.Serve file port connections house page log wide) socket a = a ≡ action.Do (task.Serve port)
IsActionOf (job.Recover file) socket a = a ≡ action.Do task.Recover
IsActionOf (job.Load file csv batch) socket a = IsLoadAction (string_bytes csv) (string_bytes batch) a
IsActionOf (job.Stock file filter format) socket a = IsReportAction (report_of (job.Stock file filter format)) socket a
IsActionOf (job.Calendar file filter) socket a = IsReportAction (report_of (job.Calendar file filter)) socket a
IsActionOf (job.Summary file filter format) socket a = IsReportAction (report_of (job.Summary file filter format)) socket a
IsActionOf (job.Holders file cell format) socket a = IsReportAction (report_of (job.Holders file cell format)) socket a
IsActionOf (job.Holdings file filter format) socket a = IsReportAction (report_of (job.Holdings file filter format)) socket a
IsActionOf (job.Unfinished file filter format) socket a = IsReportAction (report_of (job.Unfinished file filter format)) socket a
IsActionOf (job.Journeys file filter format) socket a = IsReportAction (report_of (job.Journeys file filter format)) socket a
IsActionOf (job.History file id format) socket a = IsReportAction (report_of (job.History file id format)) socket a
IsActionOf (job.Why file id format) socket a = IsReportAction (report_of (job.Why file id format)) socket a
IsActionOf (job.Migrate file) socket a = a ≡ action.Do task.Migrate
IsActionOf (job.Index file) socket a = a ≡ action.Do task.Index
IsActionOf job.Version socket a = a ≡ action.ShowVersion

-- the job loads an allotment file
abbrev pub IsOfLoad : Job → Type 0
IsOfLoad (job.Load file csv batch) = ⊤
IsOfLoad _ = ⊥
