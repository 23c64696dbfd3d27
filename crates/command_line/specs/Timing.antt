-- The word that asks for a log whose lines have their times.
use Rattle.std.specs.Prelude.{ℕ, Bool, true, bytes_eq, map, take, drop, ◌++◌, if◌then◌else◌, List, codes, Option, Some, None}
use Rattle.std.specs.List.{list_any, position_or_len}
use Rattle.clap.specs.Words.{Text}
use Rattle.command_line.specs.declared.jobs.Job.{Job}
use Rattle.command_line.specs.declared.jobs.Job.TheVariants.{Serve}
use Rattle.command_line.specs.declared.jobs.LogForm.{LogForm}
use Rattle.command_line.specs.declared.jobs.LogForm.TheVariants.{Timed}

-- the word after which no option stands
abbrev pub no_more_options : Text
no_more_options = codes "--"

-- how many words stand before it, or all
abbrev pub options_end : List Text → ℕ
options_end words = position_or_len (λ word. bytes_eq word no_more_options) words

-- the word asks for such a log
abbrev pub is_timed : Text → Bool
is_timed word = bytes_eq word (codes "--log=time")

-- one of the words does, before those that are no options
abbrev pub asks_for_times : List Text → Bool
asks_for_times words = list_any is_timed (take (options_end words) words)

-- the words as clap reads them: such a word asks for a log
abbrev pub plain_word : Text → Text
plain_word word = if is_timed word then codes "--log" else word

abbrev pub plain_words : List Text → List Text
plain_words words = map plain_word (take (options_end words) words) ++ drop (options_end words) words

-- a log whose lines have their times, where there is a log
abbrev pub timed_form : Option LogForm → Option LogForm
timed_form (Some form) = Some Timed
timed_form None = None

-- the job, whose log is such a one if that is asked for
abbrev pub timed : Bool → Job → Job
timed true (Serve file port connections house page log wide) =
    Serve file port connections house page (timed_form log) wide
timed times job = job
