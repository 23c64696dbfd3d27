-- The row that is found is that of the journey.
use Rattle.std.proofs.Common.{arith, rules}
use Rattle.sql_reads.proofs.ReadLemmas.{found_rows, query_fails, read_err, read_ok}
use Rattle.sql_reads.proofs.ReadSought.{row_found}
use Rattle.sql_reads.proofs.ReadReasons.{has_text}
use Rattle.sql_reads.proofs.reads.find_row.Goals as goal

-- no journey has so large a number
pub returns-in_err-check_absent-clause-read : goal.returns-in_err-check_absent-clause-read
returns-in_err-check_absent-clause-read g c v = read_err (search rules) (c.in_err-check_absent.ensures v) (λ s desk _. omega arith)

pub returns-then-id-gt-LARGEST-clause-read : goal.returns-then-id-gt-LARGEST-clause-read
returns-then-id-gt-LARGEST-clause-read g c v = read_ok (c.in_ok-check_absent.ensures v) (λ s desk absent. absent)

pub returns-in-Ok-clause-read : goal.returns-in-Ok-clause-read
returns-in-Ok-clause-read g c v =
    read_ok (found_rows (c.in-Ok.ensures.queries v)) (λ s desk at.
    row_found at.tables s at.rows at.stands desk c.args.id c.in-Ok.found at.found)

pub returns-in-Err-clause-read : goal.returns-in-Err-clause-read
returns-in-Err-clause-read g c v =
    query_fails (c.in-Err.ensures.queries v) c.fault_of.ensures.memory
    (λ t s st desk spelled _. has_text t s st spelled c.args.id)
