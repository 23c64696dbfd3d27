-- The line that was made was told.
use Rattle.std.proofs.Common.{sym}
use Rattle.desk_jobs.proofs.recovering.Recovered.tell.Goals as goal

pub returns : goal.returns
returns g c = record { tells = rw (sym c.self.view_is) (c.tell_line.ensures.tells _ c.line_of.ensures.line) }
