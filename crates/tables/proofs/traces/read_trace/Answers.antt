-- All items of the journey come after the event that began it.
use Rattle.std.proofs.Common.{rules}
use Rattle.sql_reads.proofs.ReadLemmas.{read_both, read_ok, then_err}
use Rattle.tables.proofs.traces.read_trace.Goals as goal

pub returns-in_err-items-in-Some : goal.returns-in_err-items-in-Some
returns-in_err-items-in-Some g c =
    then_err (search rules) (rw c.in-Some.is at c.in_ok-brief.ensures.read) c.in_err-items-in-Some.ensures (λ s desk _ at. at.begun)

pub returns-in_ok-items-in-Some : goal.returns-in_ok-items-in-Some
returns-in_ok-items-in-Some g c =
    read_ok (read_both (rw c.in-Some.is at c.in_ok-brief.ensures.read) c.in_ok-items-in-Some.ensures) (λ s desk both. record {
      brief = both.0.brief;
      items = both.1 both.0.begun;
    })
