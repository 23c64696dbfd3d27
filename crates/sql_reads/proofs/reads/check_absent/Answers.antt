-- The row of meta counts the journeys.
use Rattle.std.proofs.Common.{◌≡◌, length, arith}
use Rattle.ledger.specs.Ledger.{journeys}
use Rattle.sql_model.proofs.Readings.{meta_read}
use Rattle.sql_reads.proofs.ReadLemmas.{found_rows, query_fails, read_never, read_ok}
use Rattle.sql_reads.proofs.ReadJourneys.{journey_past}
use Rattle.sql_reads.proofs.ReadReasons.{few_journeys, meta_there}
use Rattle.sql_reads.proofs.reads.check_absent.Goals as goal

pub returns-in-Ok : goal.returns-in-Ok
returns-in-Ok g c v =
    read_ok (found_rows (c.in-Ok.ensures.queries v)) (λ s desk at.
    let few : c.in-Ok.meta.journeys ≡ length (journeys s.ledger) = (meta_read at.tables s at.stands desk c.in-Ok.meta at.found).2 in
    journey_past s.ledger c.args.id (omega (arith, c.if-meta-id.true, few)))

-- no ledger has so many journeys
pub returns-in-Ok-2 : goal.returns-in-Ok-2
returns-in-Ok-2 g c v =
    read_never (found_rows (c.in-Ok.ensures.queries v)) (λ s desk spelled far at.
    let many : c.in-Ok.meta.journeys ≡ length (journeys s.ledger) = (meta_read at.tables s at.stands desk c.in-Ok.meta at.found).2 in
    omega (arith, far, c.if-meta-id.false, many, few_journeys s.ledger, spelled.few))

pub returns-in-Err : goal.returns-in-Err
returns-in-Err g c v =
    query_fails (c.in-Err.ensures.queries v) c.fault_of.ensures.memory (λ t s st desk spelled far. meta_there t s st)
