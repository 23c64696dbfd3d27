-- The line that was made was sent.
use Rattle.std.proofs.Common.{rules}
use Rattle.program_jobs.proofs.serving.send_ready.Goals as goal

pub returns : goal.returns
returns g c = record { sends = c.send_line.ensures.sends _ (search rules) }
