-- The items after the event that began the journey are its history, and a journey that does not exist has none.
use Rattle.std.proofs.Common.{◌∙◌, rules}
use Rattle.desk_sql.specs.declared.versions.Version.TheVariants.{Two}
use Rattle.sql_reads.proofs.ReadLemmas.{read_err, read_then}
use Rattle.sql_reads.proofs.reads.read_history.Goals as goal

pub returns-in_err-sought : goal.returns-in_err-sought
returns-in_err-sought g c = read_err (search rules) (c.in_err-sought.ensures.read Two) (λ s desk any. any)

pub returns : goal.returns
returns g c =
    read_then (c.in_ok-sought.ensures.read Two) c.read_items.ensures (λ s desk any at. at.first)
    (λ s desk at items told. told at.first ∙ at.items)
