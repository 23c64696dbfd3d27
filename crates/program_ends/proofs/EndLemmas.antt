-- What is said of an end that is no refusal. For the jobs that act, and for the reports.
use Rattle.commands.specs.declared.replies.Refusal.{Refusal}
use Rattle.program_ends.specs.Ends.{IfRefused, IsNotRefused}
use Rattle.program_ends.specs.declared.ends.End.{End}
use Rattle.program_ends.specs.declared.ends.End.TheVariants as finish

-- no refusal is any refusal
pub unrefused : (So : Refusal → Type 0) (e : End) → IsNotRefused e → IfRefused e So
unrefused So finish.Done taken = tt
unrefused So (finish.Refused why) taken = absurd taken
unrefused So (finish.Fault f) taken = tt
unrefused So (finish.Usage text) taken = tt
