-- The row of a journey gives its brief and the event that began it.
use Rattle.std.proofs.Common.{arith, rules}
use Rattle.desk_sql.specs.declared.versions.Version.TheVariants.{Two}
use Rattle.sql_reads.proofs.ReadJourneys.{brief_none, brief_shown}
use Rattle.sql_reads.proofs.ReadLemmas.{read_err, read_never, read_ok}
use Rattle.sql_reads.proofs.ReadReasons.{false_is_not_true}
use Rattle.sql_reads.proofs.traces.find_brief.Goals as goal

pub returns-in_err-row-clause-read : goal.returns-in_err-row-clause-read
returns-in_err-row-clause-read g c = read_err (search rules) (c.in_err-row.ensures.read Two) (λ s desk any. any)

pub returns-in-None-clause-read : goal.returns-in-None-clause-read
returns-in-None-clause-read g c =
    read_ok (rw c.in-None.is at (c.in_ok-row.ensures.read Two)) (λ s desk absent. record { brief = brief_none s.ledger c.args.id absent; begun = tt })

-- its items come after the event that began it
pub returns-in-Some-brief_of-clause-read : goal.returns-in-Some-brief_of-clause-read
returns-in-Some-brief_of-clause-read g c =
    read_ok (rw c.in-Some.is at (c.in_ok-row.ensures.read Two)) (λ s desk row. record {
      brief = brief_shown s.ledger c.args.id c.in-Some.found c.in-Some-brief_of.brief row.tells c.in-Some-brief_of.ensures.told;
      begun = row.begun;
    })

-- the row of a journey tells where it is
pub returns-in-Some-clause-read : goal.returns-in-Some-clause-read
returns-in-Some-clause-read g c =
    read_never (rw c.in-Some.is at (c.in_ok-row.ensures.read Two)) (λ s desk spelled _ row.
    false_is_not_true (c.in-None-brief_of.ensures.there (row.agent spelled) (row.cursor spelled)))

-- each journey was begun by one of the events
pub returns-clause-read : goal.returns-clause-read
returns-clause-read g c =
    read_never (rw c.in-Some.is at (c.in_ok-row.ensures.read Two)) (λ s desk spelled _ row. omega (arith, row.early spelled))
