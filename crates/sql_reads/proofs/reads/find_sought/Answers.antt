-- A journey's row has the event that began it and the number of its steps.
use Rattle.std.proofs.Common.{refl, arith, rules}
use Rattle.sql_reads.proofs.ReadLemmas.{read_err, read_never, read_ok}
use Rattle.sql_reads.proofs.ReadSought.{sought_nowhere, sought_there}
use Rattle.sql_reads.proofs.reads.find_sought.Goals as goal

pub returns-in_err-row-clause-read : goal.returns-in_err-row-clause-read
returns-in_err-row-clause-read g c v = read_err (search rules) (c.in_err-row.ensures.read v) (λ s desk any. any)

pub returns-in-Some-clause-read : goal.returns-in-Some-clause-read
returns-in-Some-clause-read g c v =
    read_ok (rw c.in-Some.is at (c.in_ok-row.ensures.read v)) (λ s desk row. sought_there s c.args.id c.in-Some.found row _ refl refl refl)

-- each journey was begun by one of the events
pub returns-in-Some-2-clause-read : goal.returns-in-Some-2-clause-read
returns-in-Some-2-clause-read g c v =
    read_never (rw c.in-Some.is at (c.in_ok-row.ensures.read v)) (λ s desk spelled _ row. omega (arith, row.early spelled))

pub returns-in-None-clause-read : goal.returns-in-None-clause-read
returns-in-None-clause-read g c v =
    read_ok (rw c.in-None.is at (c.in_ok-row.ensures.read v)) (λ s desk absent.
    sought_nowhere s desk c.args.id c.nowhere.result c.nowhere.ensures.journey absent)
