-- The line that was made was told.
use Rattle.desk_jobs.proofs.indexing.tell_indexed.Goals as goal

pub returns : goal.returns
returns g c = record { tells = c.tell_line.ensures.tells _ c.line_of.ensures.line }
