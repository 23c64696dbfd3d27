-- Either way the items are those of the journey.
use Rattle.sql_reads.proofs.ReadLemmas.{read_less}
use Rattle.tables.proofs.traces.read_by_phase.Goals as goal

pub returns-then-is_finished : goal.returns-then-is_finished
returns-then-is_finished g c = read_less c.read_each.ensures (λ s items told first. told)
