-- The rows of a journey, of its plan and of its save-points give its record.
use Rattle.std.proofs.Common.{◌≡◌, ◌∙◌, Option, None, Some, IsSome, refl, sym, rules}
use Rattle.desk_sql.specs.FoundRows.{journey_of}
use Rattle.sql_reads.proofs.ReadLemmas.{read_both, read_err, read_never, read_ok, then_err}
use Rattle.sql_reads.proofs.ReadJourneys.{journey_there, marks_either, record_none, stand_record, stand_shown}
use Rattle.sql_reads.proofs.ReadReasons.{false_is_not_true}
use Rattle.sql_reads.specs.declared.reads.Stand.{Stand}
use Rattle.sql_reads.proofs.reads.read_journey.Goals as goal

pub returns-in_err-row : goal.returns-in_err-row
returns-in_err-row g c = read_err (search rules) (c.in_err-row.ensures.read c.args.version) (λ s desk any. any)

pub returns-in-None : goal.returns-in-None
returns-in-None g c =
    read_ok (rw c.in-None.is at (c.in_ok-row.ensures.read c.args.version)) (λ s desk absent. record_none s.ledger c.args.id absent)

-- the row of a journey tells where it is
some_stand : (o : Option Stand) → IsSome o → ((x : Stand) → o ≡ Some x → ⊥) → ⊥
some_stand None some none = false_is_not_true some
some_stand (Some x) some none = none x refl

pub returns-in_default : goal.returns-in_default
returns-in_default g c =
    read_never (rw c.in-Some.is at (c.in_ok-row.ensures.read c.args.version)) (λ s desk spelled _ row.
    some_stand c.stand_of.result (c.stand_of.ensures.there (row.agent spelled) (row.cursor spelled)) c.in_default.not-Some)

-- the plan of a journey that is there is read
pub returns-in_err-plan-in-Some : goal.returns-in_err-plan-in-Some
returns-in_err-plan-in-Some g c =
    then_err (search rules) (rw c.in-Some.is at (c.in_ok-row.ensures.read c.args.version)) (c.in_err-plan-in-Some.ensures c.args.version) (λ s desk _ row.
    let there = journey_there s.ledger c.args.id (journey_of c.in-Some.found) row.tells in (there.journey, there.at, there.is.tries))

-- and so are its save-points
pub returns-in_err-marks-in-Some : goal.returns-in_err-marks-in-Some
returns-in_err-marks-in-Some g c =
    then_err (search rules) (read_both (rw c.in-Some.is at (c.in_ok-row.ensures.read c.args.version)) (c.in_ok-plan-in-Some.ensures c.args.version))
    c.in_err-marks-in-Some.ensures (λ s desk _ both. tt)

pub returns-in_ok-marks-in-Some : goal.returns-in_ok-marks-in-Some
returns-in_ok-marks-in-Some g c =
    let id = c.args.id in
    let stand = c.in-Some-stand_of.stand in
    let marks = c.in_ok-marks-in-Some.marks in
    read_ok (read_both (read_both (rw c.in-Some.is at (c.in_ok-row.ensures.read c.args.version)) (c.in_ok-plan-in-Some.ensures c.args.version))
    c.in_ok-marks-in-Some.ensures) (λ s desk all.
    let row = all.0.0 in
    stand_record s.ledger id stand c.in_ok-plan-in-Some.plan marks (stand_shown s.ledger id c.in-Some.found stand row.tells c.in-Some-stand_of.ensures.told)
    (λ a at tries. all.0.1 a at (sym c.in-Some-stand_of.ensures.told.tries ∙ tries)) (marks_either c.args.version s id marks row.unmarked all.1))
