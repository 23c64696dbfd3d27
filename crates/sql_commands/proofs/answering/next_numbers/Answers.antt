-- The next event has one number more than the last one.
use Rattle.std.proofs.Common.{◌+◌, ap, rules}
use Rattle.sql_reads.proofs.ReadLemmas.{read_err, read_ok}
use Rattle.sql_commands.proofs.answering.next_numbers.Goals as goal

pub returns : goal.returns
returns g c =
    read_ok c.in_ok-counts.ensures.read (λ s desk counted. record { num = ap (λ k. k + 1) counted.events; journeys_are = counted.journeys_are })

pub returns-in_err-counts : goal.returns-in_err-counts
returns-in_err-counts g c = read_err (search rules) c.in_err-counts.ensures.read (λ s desk fits. fits)
