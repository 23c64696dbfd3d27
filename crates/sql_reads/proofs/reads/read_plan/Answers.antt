-- A plan with just these rows is the journey's.
use Rattle.std.proofs.Common.{◌≡◌, ◌∙◌, IsTrue, rules}
use Rattle.plan.specs.PlanModel.{is_plan}
use Rattle.sql_model.proofs.Readings.{plan_read}
use Rattle.sql_reads.specs.Reading.{IsPlanOf}
use Rattle.sql_reads.specs.PlanRows.{TellPlan}
use Rattle.sql_reads.proofs.ReadLemmas.{both_ok, found_rows, query_fails, read_so}
use Rattle.sql_reads.proofs.GoodTexts.{plan_rows, want_texts}
use Rattle.sql_reads.proofs.reads.read_plan.Goals as goal

-- the rows of the journey give its plan
pub returns-in-Ok : goal.returns-in-Ok
returns-in-Ok g c v =
    let rows = c.in-Ok.found in
    let id = c.args.id in
    let same : c.as_slice.result.now ≡ rows.items = search rules in
    read_so c.plan_told.result (found_rows (c.in-Ok.ensures.queries v)) (λ s desk at.
    both_ok c.plan_told.result (TellPlan c.as_slice.result.now) (λ plan. plan.tries ≡ c.args.tries) (λ plan. IsTrue (is_plan plan)) (IsPlanOf id c.args.tries s)
    (λ plan told tries good a here is.
    plan_read at.tables s at.stands desk id a rows.items plan here at.found good (rw (← same) (told id)) (tries ∙ is))
    c.plan_told.ensures.rows c.plan_told.ensures.tries c.plan_told.ensures.good) (λ s desk spelled fits at.
    c.plan_told.ensures.there id fits.0.plan (rw same (plan_rows at.tables s at.stands desk id fits.0 rows.items fits.1 at.found)) fits.2)

pub returns-in-Err : goal.returns-in-Err
returns-in-Err g c v =
    query_fails (c.in-Err.ensures.queries v) c.fault_of.ensures.memory
    (λ t s st desk spelled fits. want_texts t s st desk c.args.id fits.0 fits.1)
