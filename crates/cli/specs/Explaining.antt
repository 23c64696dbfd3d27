-- What is printed on standard error where the end of a job is explained.
use Rattle.std.specs.Prelude.{ℕ, List, Option}
use Rattle.desk_jobs.specs.Notes.{MayNoteAll}
use Rattle.program_ends.specs.Causes.{Explains}
use Rattle.program_ends.specs.Ends.{EndsJob}
use Rattle.program_ends.specs.declared.causes.Cause.{Cause}
use Rattle.program_ends.specs.declared.ends.End.{End}

-- perhaps the notes of a recovery and of a wrong field, then the text of an end of a job, and then the line of its cause, if it has one
pub record TellsExplained (held holds : Option (List ℕ)) : Type 0 where
  pub end : End
  pub job : EndsJob end
  pub cause : Option Cause
  pub noted : Option (List ℕ)
  pub note : MayNoteAll held noted
  pub explained : Explains end cause noted holds
