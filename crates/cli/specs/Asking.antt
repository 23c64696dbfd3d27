-- How a report ends of which the desk at a socket is asked, and what it prints.
use Rattle.std.specs.Prelude.{◌≡◌, ℕ, List, Option, Some, None}
use Rattle.std.specs.Io.KnownBytes.{Appends}
use Rattle.commands.specs.declared.replies.Refusal.{Refusal}
use Rattle.commands.specs.declared.replies.Refusal.TheVariants as refusal
use Rattle.http_pages.specs.Answers.{IsAnswer, IsPage}
use Rattle.http_pages.specs.Exchanges.{Received}
use Rattle.http_pages.specs.declared.answer_pages.Answer.TheVariants as answer
use Rattle.http_pages.specs.declared.asking.Unanswered.{Unanswered}
use Rattle.http_pages.specs.declared.asking.Unanswered.TheVariants as unanswered
use Rattle.http_pages.specs.Statuses.{status_code}
use Rattle.http_pages.specs.declared.heads.Status.TheVariants as status
use Rattle.program_ends.specs.declared.causes.Cause.{Cause}
use Rattle.program_ends.specs.declared.causes.Cause.TheVariants as cause
use Rattle.program_ends.specs.declared.ends.End.{End}
use Rattle.program_ends.specs.declared.ends.End.TheVariants as finish
use Rattle.program_ends.specs.declared.faults.ProgramFault.TheVariants as fault

-- the page of a report came, and just its text was written
abbrev pub TellsAsked : (before after held holds : Option (List ℕ)) → Type 0
TellsAsked before after held holds =
    Received before after (λ came. (text : List ℕ) × IsPage came (status_code status.Fine) text × Appends held holds text)

-- the page of that refusal came
abbrev pub RefusesAsked : (before after : Option (List ℕ)) → Refusal → Type 0
RefusesAsked before after why = (why ≡ refusal.NoJourney) × Received before after (λ came. IsAnswer came answer.NoJourney)

-- the end where there is no answer, and why
abbrev pub end_of_asking : Unanswered → End
end_of_asking unanswered.Memory = finish.Fault fault.Memory
end_of_asking _ = finish.Fault fault.Net

abbrev pub cause_of_asking : Unanswered → Option Cause
cause_of_asking unanswered.Memory = None
cause_of_asking _ = Some cause.NoAnswer
