-- The row that is found is that of the next item.
use Rattle.std.proofs.Common.{arith}
use Rattle.sql_reads.proofs.ReadLemmas.{found_rows, no_read, query_fails, read_never, read_ok}
use Rattle.sql_reads.proofs.ReadSought.{next_sought}
use Rattle.sql_reads.proofs.ReadReasons.{item_early}
use Rattle.sql_reads.proofs.reads.find_next.Goals as goal

-- a store can be asked for such numbers alone
pub returns-then-sought-gt-LARGEST : goal.returns-then-sought-gt-LARGEST
returns-then-sought-gt-LARGEST g c = read_never no_read (λ s desk spelled low _. grind (arith, low.journey, low.after))

pub returns-in-Ok : goal.returns-in-Ok
returns-in-Ok g c =
    let w = c.args.sought.now in
    read_ok (found_rows c.in-Ok.ensures.queries) (λ s desk at. record {
      next = next_sought at.tables s at.stands desk w c.in-Ok.found at.found;
      early = λ spelled. item_early at.tables s at.stands spelled w.journey w.after c.in-Ok.found at.found;
    })

pub returns-in-Err : goal.returns-in-Err
returns-in-Err g c = query_fails c.in-Err.ensures.queries c.fault_of.ensures.memory (λ t s st desk spelled low. tt)
