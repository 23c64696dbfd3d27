-- The values of a command line, by their names, and what their words spell.
use Rattle.std.specs.Prelude.{◌≡◌, ℕ, Bool, false, is_none, bytes_eq, if◌then◌else◌, codes, Option, None, Some}
use Rattle.std.specs.Option.{option_and_then, option_map_or}
use Rattle.allotment.specs.Texts.{number_from}
use Rattle.clap.specs.Words.{Text, first_value, found_of}
use Rattle.clap.specs.declared.parser.ArgMatches.{ArgMatches}
use Rattle.command_line.specs.declared.jobs.LogForm.{LogForm}
use Rattle.command_line.specs.declared.jobs.LogForm.TheVariants.{Plain}
use Rattle.saga_core.specs.declared.report.Format.{Format}
use Rattle.saga_core.specs.declared.report.Format.TheVariants as format

-- the value of each name that clap has read
abbrev pub values_read : ArgMatches → Text → Option Text
values_read matches = first_value (found_of matches)

-- the value of FILE is this file
abbrev pub NamesFile : (Text → Option Text) → Text → Type 0
NamesFile value file = value (codes "FILE") ≡ Some file

-- the highest port, and how many connections are served at most
abbrev pub most_port : ℕ
most_port = 65535

abbrev pub most_connections : ℕ
most_connections = 1000

-- the number from 1 to `most` that a value spells in digits, without sign and without leading zeros
abbrev pub number_named : ℕ → Option Text → Option ℕ
number_named most value = option_and_then (number_from 1 most) value

-- the value is there, and spells no such number
abbrev pub is_malformed : ℕ → Option Text → Bool
is_malformed most None = false
is_malformed most (Some word) = is_none (number_from 1 most word)

-- the port, and the number of connections, by their names
abbrev pub port_in : (Text → Option Text) → Option ℕ
port_in value = number_named most_port (value (codes "PORT"))

abbrev pub connections_in : (Text → Option Text) → Option ℕ
connections_in value = number_named most_connections (value (codes "N"))

-- the path of the administrator's socket, by its name
abbrev pub house_in : (Text → Option Text) → Option Text
house_in value = value (codes "PATH")

-- a flag is set where clap reads `true`
abbrev pub is_set : Option Text → Bool
is_set value = option_map_or (λ word. bytes_eq word (codes "true")) value false

-- whether the page for browsers is asked for, by its name
abbrev pub page_in : (Text → Option Text) → Bool
page_in value = is_set (value (codes "PAGE"))

-- how the log is written, if it is asked for, by its name
abbrev pub log_in : (Text → Option Text) → Option LogForm
log_in value = if is_set (value (codes "LOG")) then Some Plain else None

-- whether HTTP is read as libraries and proxies speak it, by its name
abbrev pub wide_in : (Text → Option Text) → Bool
wide_in value = is_set (value (codes "WIDE"))

-- the format of a report that a word names; a text if none is given
abbrev pub format_of : Option Text → Option Format
format_of None = Some format.Text
format_of (Some word) =
    if bytes_eq word (codes "text") then Some format.Text
    else if bytes_eq word (codes "json") then Some format.Json
    else if bytes_eq word (codes "csv") then Some format.Csv
    else None

-- the format, by its name
abbrev pub format_in : (Text → Option Text) → Option Format
format_in value = format_of (value (codes "FORMAT"))

-- whether the calendar of the stock is asked for, by its name
abbrev pub calendar_in : (Text → Option Text) → Bool
calendar_in value = is_set (value (codes "CALENDAR"))

-- the format, if it is a text
abbrev pub text_alone : Format → Option Format
text_alone format.Text = Some format.Text
text_alone _ = None

-- the format, by its name, if it is a text
abbrev pub text_format_in : (Text → Option Text) → Option Format
text_format_in value = option_and_then text_alone (format_in value)

-- the format of the stock: the calendar is a text alone
abbrev pub stock_format_in : (Text → Option Text) → Option Format
stock_format_in value = if calendar_in value then text_format_in value else format_in value
