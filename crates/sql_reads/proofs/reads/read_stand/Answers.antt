-- The row of a journey gives its agent, steps and cursor.
use Rattle.std.proofs.Common.{rules}
use Rattle.desk_sql.specs.declared.versions.Version.TheVariants.{Two}
use Rattle.sql_reads.proofs.ReadLemmas.{read_err, read_never, read_ok}
use Rattle.sql_reads.proofs.ReadJourneys.{stand_none, stand_shown}
use Rattle.sql_reads.proofs.ReadReasons.{false_is_not_true}
use Rattle.sql_reads.proofs.reads.read_stand.Goals as goal

pub returns-in_err-row : goal.returns-in_err-row
returns-in_err-row g c = read_err (search rules) (c.in_err-row.ensures.read Two) (λ s desk any. any)

pub returns-in-None : goal.returns-in-None
returns-in-None g c =
    read_ok (rw c.in-None.is at (c.in_ok-row.ensures.read Two)) (λ s desk absent. stand_none s.ledger c.args.id absent)

pub returns-in-Some-stand_of : goal.returns-in-Some-stand_of
returns-in-Some-stand_of g c =
    read_ok (rw c.in-Some.is at (c.in_ok-row.ensures.read Two)) (λ s desk row.
    stand_shown s.ledger c.args.id c.in-Some.found c.in-Some-stand_of.stand row.tells c.in-Some-stand_of.ensures.told)

-- the row of a journey tells where it is
pub returns : goal.returns
returns g c =
    read_never (rw c.in-Some.is at (c.in_ok-row.ensures.read Two)) (λ s desk spelled _ row.
    false_is_not_true (c.in-None-stand_of.ensures.there (row.agent spelled) (row.cursor spelled)))
