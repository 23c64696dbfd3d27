-- What the program was called with.
use Rattle.std.specs.Prelude.{◌≡◌, Bool, List, option_map}
use Rattle.clap.specs.Words.{Text}
use Rattle.command_line.specs.Asking.{file_words, socket_in, socket_said}
use Rattle.command_line.specs.Explaining.{asks_to_explain, job_words}
use Rattle.command_line.specs.Jobs.{are_refused, IsJob}
use Rattle.command_line.specs.Timing.{asks_for_times, plain_words, timed}
use Rattle.command_line.specs.declared.calls.Call.{Call}
use Rattle.command_line.specs.declared.jobs.Job.{Job}

-- the words of the job and of the socket, as clap reads them: the log is asked for by `--log` alone
abbrev pub called_words : List Text → List Text
called_words words = plain_words (job_words words)

-- the call has the job that its words have over a file, with times in its log if they ask for them; and it has the socket that
-- they name
pub record IsCall (words : List Text) (call : Call) : Type 0 where
  pub explains : call.explains ≡ asks_to_explain words
  pub socket : option_map socket_said call.socket ≡ socket_in (called_words words)
  pub read : Job
  pub fits : IsJob (file_words (called_words words)) read
  pub job : call.job ≡ timed (asks_for_times (job_words words)) read

-- the words are refused; those that name a socket, where they are over a file in its place
abbrev pub refuses_call : List Text → Bool
refuses_call words = are_refused (file_words (called_words words))
