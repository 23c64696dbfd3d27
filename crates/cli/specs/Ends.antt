-- How a job over a file ends, what it prints, and what it reads.
use Rattle.std.specs.Prelude.{◌≡◌, ◌≢◌, ⊤, ℕ, List, codes, Option, None}
use Rattle.std.specs.String.{string_bytes}
use Rattle.std.specs.Io.KnownBytes.{Appends, IsAtEnd}
use Rattle.recovery.specs.Lines.{journey_in}
use Rattle.desk_jobs.specs.Ends.{recovered_line, TellsAccepted}
use Rattle.desk_jobs.specs.Migrating.{indexed_line, migrated_line}
use Rattle.tables.specs.declared.indexing.Indexed.{Indexed}
use Rattle.tables.specs.declared.migrating.Migrated.{Migrated}
use Rattle.program_jobs.specs.Serving.{ready_line}
use Rattle.command_line.specs.declared.jobs.Job.{Job}
use Rattle.command_line.specs.Version.{version_line}
use Rattle.command_line.specs.declared.jobs.Job.TheVariants.{Run, Serve, Recover, Load, Stock, Calendar, Summary, Holders, Holdings, Unfinished, Journeys, History, Why, Migrate, Index, Version}

-- the line with the number of recovery's events was written, and nothing else
abbrev pub TellsRecovered : Option (List ℕ) → Option (List ℕ) → Type 0
TellsRecovered held holds = (made : ℕ) × Appends held holds (recovered_line made)

-- the line with the number of migrated events was written, and nothing else
abbrev pub TellsMigrated : Option (List ℕ) → Option (List ℕ) → Type 0
TellsMigrated held holds = (m : Migrated) × Appends held holds (migrated_line m.events)

-- the line with the number of indexed journeys was written, and nothing else
abbrev pub TellsIndexed : Option (List ℕ) → Option (List ℕ) → Type 0
TellsIndexed held holds = (i : Indexed) × Appends held holds (indexed_line i)

-- the line that reports that connections to this port are accepted was written, and nothing else
abbrev pub TellsReady : ℕ → Option (List ℕ) → Option (List ℕ) → Type 0
TellsReady port held holds = Appends held holds (ready_line port)

-- what a job that is done prints on standard output; nothing is said here of the answers of `run` and of reports
abbrev pub TellsOf : Job → Option (List ℕ) → Option (List ℕ) → Type 0
TellsOf (Run file) held holds = ⊤
TellsOf (Serve file port connections house page log wide) held holds = TellsReady port held holds
TellsOf (Recover file) held holds = TellsRecovered held holds
TellsOf (Load file csv batch) held holds = TellsAccepted held holds
TellsOf (Stock file filter format) held holds = ⊤
TellsOf (Calendar file filter) held holds = ⊤
TellsOf (Summary file filter format) held holds = ⊤
TellsOf (Holders file cell format) held holds = ⊤
TellsOf (Holdings file filter format) held holds = ⊤
TellsOf (Unfinished file filter format) held holds = ⊤
TellsOf (Journeys file filter format) held holds = ⊤
TellsOf (History file id format) held holds = ⊤
TellsOf (Why file id format) held holds = ⊤
TellsOf (Migrate file) held holds = TellsMigrated held holds
TellsOf (Index file) held holds = TellsIndexed held holds
TellsOf Version held holds = Appends held holds version_line

-- the job is a history, and its word is no number of a journey
abbrev pub HasBadId : Job → Type 0
HasBadId (History file id format) = journey_in (string_bytes id) ≡ None
HasBadId _ = ⊥

-- an allotment file is read from the input only if its name is `-`
abbrev pub ReadsOnlyInput : List ℕ → Option (List ℕ) → Option (List ℕ) → Type 0
ReadsOnlyInput csv before after = csv ≢ codes "-" → after ≡ before

-- what a job that is done reads: `run` reads to the end, `load` only where its allotment file is `-`, and the others read
-- nothing
abbrev pub ReadsFor : Job → Option (List ℕ) → Option (List ℕ) → Type 0
ReadsFor (Run file) before after = IsAtEnd after
ReadsFor (Load file csv batch) before after = ReadsOnlyInput (string_bytes csv) before after
ReadsFor _ before after = after ≡ before
