-- The jobs of the words of the command line. The first word names the subcommand, and the other words are read by
-- clap's rules for that subcommand.
use Rattle.std.specs.Prelude.{◌≡◌, ◌||◌, ◌&&◌, ◌⊎◌, ⊤, Bool, true, false, is_none, is_some, bytes_eq, if◌then◌else◌, List, [], ◌∷◌, codes, Option, None, Some, option_map, Result, Ok, Err}
use Rattle.std.specs.Option.{option_map_or}
use Rattle.std.specs.String.{string_bytes}
use Rattle.clap.specs.Words.{App, Text, first_of, matches_of}
use Rattle.command_line.specs.Filters.{HasCells, HasJourneys, asks_for_cells, cell_asked, has_bad_cells, has_bad_holders, has_bad_journeys, journey_asked, phases_in, unfinished_in}
use Rattle.command_line.specs.Subcommands.{app_for, is_refused_by, is_report, name_of, subcommand_in}
use Rattle.command_line.specs.Values.{NamesFile, calendar_in, connections_in, format_in, house_in, is_malformed, log_in, most_connections, page_in, port_in, stock_format_in, wide_in}
use Rattle.command_line.specs.declared.jobs.Job.{Job}
use Rattle.command_line.specs.declared.jobs.Job.TheVariants.{Run, Serve, Recover, Load, Stock, Calendar, Summary, Holders, Holdings, Unfinished, Journeys, History, Why, Migrate, Index, Version}
use Rattle.command_line.specs.declared.jobs.JobFault.{JobFault}
use Rattle.command_line.specs.declared.jobs.JobFault.TheVariants.{Usage, Memory}
use Rattle.command_line.specs.declared.subcommands.Subcommand.{Subcommand}
use Rattle.command_line.specs.declared.subcommands.Subcommand.TheVariants as sub
use Rattle.saga_core.specs.declared.report.Format.TheVariants as format

-- the subcommand of a job; the calendar is one of the stock, the holders of cells are those of `holders` where no one cell is
-- given, and the job that prints the version has none
abbrev pub subcommand_of : Job → Option Subcommand
subcommand_of (Run file) = Some sub.Run
subcommand_of (Serve file port connections house page log wide) = Some sub.Serve
subcommand_of (Recover file) = Some sub.Recover
subcommand_of (Load file csv batch) = Some sub.Load
subcommand_of (Stock file filter format) = Some sub.Stock
subcommand_of (Calendar file filter) = Some sub.Stock
subcommand_of (Summary file filter format) = Some sub.Summary
subcommand_of (Holders file cell format) = Some sub.Holders
subcommand_of (Holdings file filter format) = Some sub.Holders
subcommand_of (Unfinished file filter format) = Some sub.Unfinished
subcommand_of (Journeys file filter format) = Some sub.Journeys
subcommand_of (History file id format) = Some sub.History
subcommand_of (Why file id format) = Some sub.Why
subcommand_of (Migrate file) = Some sub.Migrate
subcommand_of (Index file) = Some sub.Index
subcommand_of Version = None

-- the values of a job are those under their names
abbrev pub HasValues : (Text → Option Text) → Job → Type 0
HasValues value (Run file) = NamesFile value (string_bytes file)
HasValues value (Serve file port connections house page log wide) = NamesFile value (string_bytes file)
    × (port_in value ≡ Some port)
    × (connections_in value ≡ connections)
    × (house_in value ≡ option_map string_bytes house)
    × (page_in value ≡ page)
    × (log_in value ≡ log)
    × (wide_in value ≡ wide)
HasValues value (Recover file) = NamesFile value (string_bytes file)
HasValues value (Load file csv batch) = NamesFile value (string_bytes file)
    × (value (codes "CSV") ≡ Some (string_bytes csv))
    × (value (codes "NAME") ≡ Some (string_bytes batch))
HasValues value (Stock file filter format) = NamesFile value (string_bytes file)
    × HasCells value filter
    × (calendar_in value ≡ false)
    × (format_in value ≡ Some format)
HasValues value (Calendar file filter) = NamesFile value (string_bytes file)
    × HasCells value filter
    × (calendar_in value ≡ true)
    × (format_in value ≡ Some format.Text)
HasValues value (Summary file filter format) = NamesFile value (string_bytes file)
    × HasCells value filter
    × (format_in value ≡ Some format)
HasValues value (Holders file cell format) = NamesFile value (string_bytes file)
    × (cell_asked value ≡ Some cell)
    × (asks_for_cells value ≡ false)
    × (format_in value ≡ Some format)
HasValues value (Holdings file filter format) = NamesFile value (string_bytes file)
    × (is_some (value (codes "CELL")) ≡ false)
    × HasCells value filter
    × (format_in value ≡ Some format)
HasValues value (Unfinished file filter format) = NamesFile value (string_bytes file)
    × HasJourneys unfinished_in value filter
    × (format_in value ≡ Some format)
HasValues value (Journeys file filter format) = NamesFile value (string_bytes file)
    × HasJourneys phases_in value filter
    × (format_in value ≡ Some format)
HasValues value (History file id format) = NamesFile value (string_bytes file)
    × (value (codes "ID") ≡ Some (string_bytes id))
    × (format_in value ≡ Some format)
HasValues value (Why file id format) = NamesFile value (string_bytes file)
    × (journey_asked value ≡ Some id)
    × (format_in value ≡ Some format)
HasValues value (Migrate file) = NamesFile value (string_bytes file)
HasValues value (Index file) = NamesFile value (string_bytes file)
HasValues value Version = ⊤

-- the value of this name that clap reads from the words
abbrev pub value_in : App → List Text → Text → Option Text
value_in app words id = first_of id (matches_of app words)

-- the job is of this subcommand, with these values
pub record IsJobWith (s : Subcommand) (value : Text → Option Text) (job : Job) : Type 0 where
  pub subcommand : subcommand_of job ≡ Some s
  pub values : HasValues value job

-- the job is of this subcommand, with the values that are read from these words
abbrev pub IsJobOf : Subcommand → List Text → Job → Type 0
IsJobOf s words = IsJobWith s (value_in (app_for s) words)

-- a word that asks for the version
abbrev pub names_version : Text → Bool
names_version word = bytes_eq word (codes "--version") || bytes_eq word (codes "-V")

-- the word asks for the version, and the job is to print it
pub record IsVersionJob (word : Text) (job : Job) : Type 0 where
  pub version : job ≡ Version
  pub named : names_version word ≡ true

-- the first word names the subcommand of the job, whose values are read from the others
pub record IsSubcommandJob (word : Text) (others : List Text) (job : Job) : Type 0 where
  pub subcommand : Subcommand
  pub named : word ≡ name_of subcommand
  pub fits : IsJobOf subcommand others job

-- the job is the one that the first word names, with the values that are read from the others
abbrev pub IsJob : List Text → Job → Type 0
IsJob [] job = ⊥
IsJob (word ∷ others) job = IsVersionJob word job ⊎ IsSubcommandJob word others job

-- the subcommand reads a number that is malformed, or missing where it is required, a format that is none or that the report
-- has not, or a value that asks for no cell or journey
abbrev pub has_bad_value : Subcommand → (Text → Option Text) → Bool
has_bad_value sub.Serve value = is_none (port_in value) || is_malformed most_connections (value (codes "N"))
has_bad_value sub.Stock value = has_bad_cells value || is_none (stock_format_in value)
has_bad_value sub.Summary value = has_bad_cells value || is_none (format_in value)
has_bad_value sub.Holders value = has_bad_holders value || is_none (format_in value)
has_bad_value sub.Unfinished value = has_bad_journeys unfinished_in value || is_none (format_in value)
has_bad_value sub.Journeys value = has_bad_journeys phases_in value || is_none (format_in value)
has_bad_value sub.History value = is_none (format_in value)
has_bad_value sub.Why value = is_none (journey_asked value) || is_none (format_in value)
has_bad_value _ value = false

-- the words of a report name a socket beside its file
abbrev pub has_socket : Subcommand → (Text → Option Text) → Bool
has_socket s value = is_report s && is_some (value (codes "PATH"))

-- the words after a subcommand are refused: by clap, for a socket beside a file, or for a value that spells nothing
abbrev pub refuses : Subcommand → List Text → Bool
refuses s words =
    let value = value_in (app_for s) words in
    is_refused_by (app_for s) words || (has_socket s value || has_bad_value s value)

-- the words are refused: there is none, or the first word neither asks for the version nor names a subcommand that
-- takes the others
abbrev pub are_refused : List Text → Bool
are_refused [] = true
are_refused (word ∷ others) =
    if names_version word then false
    else option_map_or (λ s. refuses s others) (subcommand_in word) true

-- the fault is a usage
abbrev pub IsText : JobFault → Type 0
IsText (Usage text) = ⊤
IsText Memory = ⊥

-- the result is a usage
abbrev pub IsUsage : {T : Type 0} → Result T JobFault → Type 0
IsUsage (Err fault) = IsText fault
IsUsage (Ok _) = ⊥

-- the result is a value that fits, and nothing was bad; or a usage, since something was; or out of memory
abbrev pub Reads : {T : Type 0} → (T → Type 0) → Bool → Result T JobFault → Type 0
Reads Fits is_bad (Ok value) = Fits value × (is_bad ≡ false)
Reads Fits is_bad (Err fault) = IsText fault → is_bad ≡ true

-- the same, of what was asked for: nothing, where that was bad
abbrev pub ReadsOne : {T : Type 0} → Option T → Result T JobFault → Type 0
ReadsOne asked = Reads (λ value. asked ≡ Some value) (is_none asked)

-- the same, of the job of this subcommand with these values
abbrev pub ReadsJob : Subcommand → (Text → Option Text) → Result Job JobFault → Type 0
ReadsJob s value = Reads (IsJobWith s value) (has_bad_value s value)

-- the same, of the job of these words
abbrev pub ReadsWordsOf : List Text → Result Job JobFault → Type 0
ReadsWordsOf words = Reads (IsJob words) (are_refused words)
