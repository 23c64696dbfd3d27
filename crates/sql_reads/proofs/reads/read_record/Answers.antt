-- Where the rows of a journey's plan are as many as its own row says, no read of them fails for that.
use Rattle.std.proofs.Common.{sym, ap, ◌∙◌, rules}
use Rattle.plan.specs.PlanModel.{step_count}
use Rattle.desk_sql.specs.declared.versions.Version.TheVariants.{Two}
use Rattle.sql_reads.specs.declared.reads.Stand.{Stand}
use Rattle.sql_reads.proofs.ReadJourneys.{has_row, stand_record}
use Rattle.sql_reads.proofs.ReadLemmas.{read_both, read_err, read_never, read_ok, then_err}
use Rattle.sql_reads.proofs.reads.read_record.Goals as goal

-- a journey that stands so has as many tries
pub returns-in_err-plan-clause-read : goal.returns-in_err-plan-clause-read
returns-in_err-plan-clause-read g c =
    read_err (search rules) (c.in_err-plan.ensures Two) (λ s desk has.
    let row = has_row s.ledger c.args.id c.args.stand.now has in (row.journey, row.at, ap (λ (x : Stand). x.tries) row.is))

pub returns-in_err-marks-clause-read : goal.returns-in_err-marks-clause-read
returns-in_err-marks-clause-read g c = then_err (search rules) (c.in_ok-plan.ensures Two) c.in_err-marks.ensures (λ s desk has plan. tt)

-- and as many steps
pub returns-then-steps-stand-clause-read : goal.returns-then-steps-stand-clause-read
returns-then-steps-stand-clause-read g c =
    read_never (read_both (c.in_ok-plan.ensures Two) c.in_ok-marks.ensures) (λ s desk spelled has both.
    let row = has_row s.ledger c.args.id c.args.stand.now has in
    let plan = both.0 row.journey row.at (ap (λ (x : Stand). x.tries) row.is) in
    c.if-steps-stand.true (c.steps.ensures.count ∙ ap step_count plan ∙ sym (ap (λ (x : Stand). x.steps) row.is)))

pub returns-clause-read : goal.returns-clause-read
returns-clause-read g c =
    read_ok (read_both (c.in_ok-plan.ensures Two) c.in_ok-marks.ensures) (λ s desk both has.
    stand_record s.ledger c.args.id c.args.stand.now c.in_ok-plan.plan c.in_ok-marks.marks has both.0 both.1)
