-- The word that asks for an explanation of faults, before the words of the job.
use Rattle.std.specs.Prelude.{◌≡◌, nat_eq, ⊤, Bool, false, bytes_eq, if◌then◌else◌, List, [], ◌∷◌, ◌++◌, codes}
use Rattle.std.specs.List.{starts_with}
use Rattle.std.specs.String.{string_bytes}
use Rattle.clap.specs.Words.{Text}
use Rattle.command_line.specs.Subcommands.{name_of}
use Rattle.command_line.specs.declared.jobs.JobFault.{JobFault}
use Rattle.command_line.specs.declared.jobs.JobFault.TheVariants.{Usage, Memory}
use Rattle.command_line.specs.declared.subcommands.Subcommand.{Subcommand}

-- the first word asks for an explanation
abbrev pub asks_to_explain : List Text → Bool
asks_to_explain [] = false
asks_to_explain (word ∷ others) = bytes_eq word (codes "--explain")

-- the words of the job: those after that word, or all
abbrev pub job_words : List Text → List Text
job_words [] = []
job_words (word ∷ others) = if bytes_eq word (codes "--explain") then others else word ∷ others

-- how clap begins where that word stands after a subcommand, and the line that says where it belongs
abbrev pub misplaced : Text
misplaced = codes "error: unexpected argument '--explain' found\n"

abbrev pub place_line : Subcommand → Text
place_line s =
    codes "The word '--explain' stands before the command: 'desk --explain " ++ (name_of s ++ codes "'.\n")

-- a text of clap, with that line after it if the text is about that word
abbrev pub usage_with_place : Subcommand → Text → Text
usage_with_place s text = if starts_with nat_eq text misplaced then text ++ place_line s else text

-- the fault is the usage of this text, or out of memory for it
abbrev pub ShowsText : Text → JobFault → Type 0
ShowsText text (Usage shown) = string_bytes shown ≡ text
ShowsText text Memory = ⊤
