-- A report of which the desk is asked that serves at a Unix socket: `--at` names the socket, in place of a file.
use Rattle.std.specs.Prelude.{ℕ, ◌||◌, nat_eq, Bool, false, bytes_eq, if◌then◌else◌, List, [], ◌∷◌, ◌++◌, map, take, drop, codes, Option, Some, None}
use Rattle.std.specs.List.{position_or_len, starts_with}
use Rattle.std.specs.Option.{option_map_or}
use Rattle.std.specs.String.{string_bytes}
use Rattle.clap.specs.Words.{Text}
use Rattle.command_line.specs.Subcommands.{is_report, subcommand_in}
use Rattle.command_line.specs.Timing.{no_more_options}
use Rattle.command_line.specs.declared.asking.Socket.{Socket}

-- the option, and how it begins where its path is in the same word
abbrev pub at_option : Text
at_option = codes "--at"

abbrev pub at_start : Text
at_start = codes "--at="

-- a word that ends the options, or names a socket
abbrev pub is_mark : Text → Bool
is_mark word = bytes_eq word no_more_options || (bytes_eq word at_option || starts_with nat_eq word at_start)

-- how many words stand before the first such word, or all
abbrev pub before_mark : List Text → ℕ
before_mark words = position_or_len is_mark words

-- a socket that the words of a report name, and the others: the report's name, and what follows it
pub record Named : Type 0 where
  pub path : Text
  pub words : List Text

-- the same of a value of the program
abbrev pub socket_said : Socket → Named
socket_said socket = record { path = string_bytes socket.path; words = map string_bytes socket.words.items }

-- the path is the word after the option, unless it looks like an option itself
abbrev pub socket_after : List Text → List Text → Option Named
socket_after before [] = None
socket_after before (path ∷ after) =
    if starts_with nat_eq path (codes "-") then None else Some (record { path = path; words = before ++ after })

-- the socket that the first of these words names; the words before it and after it are the others
abbrev pub socket_at : List Text → List Text → Option Named
socket_at before [] = None
socket_at before (word ∷ after) =
    if bytes_eq word at_option then socket_after before after
    else if starts_with nat_eq word at_start then Some (record { path = drop 5 word; words = before ++ after })
    else None

-- the first of the words names a report
abbrev pub name_report : List Text → Bool
name_report [] = false
name_report (word ∷ others) = option_map_or is_report (subcommand_in word) false

-- the socket that the words of a report name: `--at PATH` or `--at=PATH`, at any place before `--`
abbrev pub socket_in : List Text → Option Named
socket_in words =
    if name_report words then socket_at (take (before_mark words) words) (drop (before_mark words) words) else None

-- the words of a report over a file, of those without one: a word stands for the file
abbrev pub over_file : List Text → List Text
over_file [] = []
over_file (name ∷ others) = name ∷ codes "FILE" ∷ others

-- the words of a job over a file: all, or those of the report at a socket
abbrev pub words_over : Option Named → List Text → List Text
words_over None words = words
words_over (Some named) words = over_file named.words

abbrev pub file_words : List Text → List Text
file_words words = words_over (socket_in words) words
