-- The report that the target of a request asks for, as `/reports/holders?R/INN/DBL/2030-06-01&--format&json`: its words are those
-- of the command line without its file.
use Rattle.std.specs.Prelude.{ℕ, Bool, ◌&&◌, ◌==◌, not, List, [], ◌∷◌, ◌++◌, bytes_eq, codes, drop, length, take, if◌then◌else◌, Option, Some, None}
use Rattle.std.specs.List.{list_all}
use Rattle.std.specs.Option.{option_and_then}
use Rattle.std.specs.Str.{is_utf8}
use Rattle.allotment.specs.Texts.{parts}
use Rattle.clap.specs.Words.{Text}
use Rattle.command_line.specs.Asking.{over_file}
use Rattle.command_line.specs.Jobs.{are_refused, value_in}
use Rattle.command_line.specs.Subcommands.{app_for, subcommand_in}
use Rattle.saga_core.specs.declared.report.Report.{Report}
use Rattle.report_words.specs.Jobs.{report_with}

-- `?` and `&`
abbrev pub question : ℕ
question = 63

abbrev pub ampersand : ℕ
ampersand = 38

-- what a target begins with that asks for a report
abbrev pub front : Text
front = codes "/reports/"

-- a target asks for a report, whichever it is
abbrev pub asks_for_report : Text → Bool
asks_for_report target = bytes_eq (take (length front) target) front

-- the report of the words of the command line
abbrev pub report_of_words : List Text → Option Report
report_of_words (name ∷ others) = option_and_then (λ s. report_with name (value_in (app_for s) others)) (subcommand_in name)
report_of_words [] = None

-- the report that words without a file ask for; none if they are refused, or ask for something else
abbrev pub report_by : List Text → Option Report
report_by words = if are_refused (over_file words) then None else report_of_words (over_file words)

-- the report of a subcommand, and of the words after a question mark
abbrev pub report_of_pieces : List Text → Option Report
report_of_pieces (name ∷ []) = report_by (name ∷ [])
report_of_pieces (name ∷ query ∷ []) = report_by (name ∷ parts ampersand query)
report_of_pieces _ = None

abbrev pub report_named : Text → Option Report
report_named text = report_of_pieces (parts question text)

abbrev pub report_after : Text → Option Report
report_after rest = if is_utf8 rest then report_named rest else None

-- the report that a target asks for
abbrev pub report_asked : Text → Option Report
report_asked target = if asks_for_report target then report_after (drop (length front) target) else None

-- a word may stand in a target: it has neither mark
abbrev pub fits_target : Text → Bool
fits_target word = list_all (λ byte. not (byte == question) && not (byte == ampersand)) word

-- a mark and a word, for each word: this mark before the first, and `&` before the others
abbrev pub marked : Text → List Text → Text
marked mark [] = []
marked mark (word ∷ later) = mark ++ (word ++ marked (codes "&") later)

-- the target that asks for the report of this name and these words, and that of words
abbrev pub target_text : Text → List Text → Text
target_text name others = front ++ (name ++ marked (codes "?") others)

abbrev pub target_of : List Text → Option Text
target_of [] = None
target_of (name ∷ others) = if list_all fits_target (name ∷ others) then Some (target_text name others) else None
