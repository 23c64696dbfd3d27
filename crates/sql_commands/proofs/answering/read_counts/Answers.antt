-- The row of meta counts the events and journeys of the state that is kept.
use Rattle.std.proofs.Common.{◌≡◌, length, arith}
use Rattle.ledger.specs.Ledger.{journeys}
use Rattle.desk_sql.specs.declared.versions.Version.TheVariants.{Two}
use Rattle.sql_model.proofs.Readings.{meta_read}
use Rattle.sql_reads.proofs.ReadLemmas.{found_rows, query_fails, read_never, read_ok}
use Rattle.sql_reads.proofs.ReadReasons.{few_journeys, meta_there}
use Rattle.sql_commands.proofs.answering.read_counts.Goals as goal

pub returns-in-Ok-clause-read : goal.returns-in-Ok-clause-read
returns-in-Ok-clause-read g c =
    read_ok (found_rows (c.in-Ok.ensures.queries Two)) (λ s desk at.
    let told = meta_read at.tables s at.stands desk c.in-Ok.meta at.found in
    record { version = told.0; events = told.1; journeys_are = told.2 })

pub returns-in-Err-clause-read : goal.returns-in-Err-clause-read
returns-in-Err-clause-read g c =
    query_fails (c.in-Err.ensures.queries Two) c.fault_of.ensures.memory (λ t s st desk spelled _. meta_there t s st)

-- no ledger has so many journeys, nor so many events
pub returns-in-Ok-2-clause-read : goal.returns-in-Ok-2-clause-read
returns-in-Ok-2-clause-read g c =
    read_never (found_rows (c.in-Ok.ensures.queries Two)) (λ s desk spelled _ at.
    let many : c.in-Ok.meta.journeys ≡ length (journeys s.ledger) = (meta_read at.tables s at.stands desk c.in-Ok.meta at.found).2 in
    omega (arith, c.if-meta-le-MOST_EVENTS-2.false, many, few_journeys s.ledger, spelled.few))

pub returns-in-Ok-2-2-clause-read : goal.returns-in-Ok-2-2-clause-read
returns-in-Ok-2-2-clause-read g c =
    read_never (found_rows (c.in-Ok.ensures.queries Two)) (λ s desk spelled _ at.
    let many : c.in-Ok.meta.events ≡ length s.ledger = (meta_read at.tables s at.stands desk c.in-Ok.meta at.found).1 in
    omega (arith, c.if-meta-le-MOST_EVENTS.false, many, spelled.few))
