-- The row found for a name is that of the batch that has it.
use Rattle.sql_reads.proofs.ReadLemmas.{found_rows, query_fails, read_ok}
use Rattle.sql_commands.proofs.LoadComes.{name_told}
use Rattle.sql_commands.proofs.loading.find_known.Goals as goal

pub returns-in-Ok : goal.returns-in-Ok
returns-in-Ok g c =
    read_ok (found_rows c.in-Ok.ensures.queries)
    (λ s desk at. name_told at.tables s at.stands desk c.args.name.now c.in-Ok.found at.found)

pub returns-in-Err : goal.returns-in-Err
returns-in-Err g c = query_fails c.in-Err.ensures.queries c.fault_of.ensures.memory (λ t s st desk spelled _. tt)
