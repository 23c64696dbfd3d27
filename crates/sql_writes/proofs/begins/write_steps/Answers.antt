use Rattle.std.proofs.Common.{◌∙◌, append_assoc, length, ap, arith, rules, length-append}
use Rattle.sql_model.specs.ExpectedRows.{step_rows_of, none_taken}
use Rattle.sql_model.specs.Beginning.{adds_steps, first_steps}
use Rattle.sql_model.proofs.PlanParts.{step_rows_of-more}
use Rattle.sql_model.proofs.PlanWriting.{step_rows-all}
use Rattle.sql_writes.proofs.OptionLemmas.{next_step, next_step_fits}
use Rattle.sql_writes.proofs.Doing.{open_and, open_as, open_fail}
use Rattle.sql_writes.proofs.begins.write_steps.Goals as goal

-- the rows of one more step are written
pub loop-step-preserved : goal.loop-step-preserved
loop-step-preserved g c =
    let more = step_rows_of-more c.args.numbers.journeys c.args.plan.now c.loop-step.step (omega arith) in
    record {
      bound = c.loop-step.invariant.bound;
      did = open_as (open_and c.loop-step.invariant.did c.in_ok-write_options.ensures.did)
          (λ _ t _ _. search (rules, arith, append_assoc, more)) (search (rules, arith, more, length-append));
    }

-- a step that fails does so for a reason
pub returns-in_err-write_options : goal.returns-in_err-write_options
returns-in_err-write_options g c = record {
  did = open_fail (open_and c.loop-step.invariant.did c.in_err-write_options.ensures.did)
      (λ t permits. search (rules, next_step)) (search (rules, arith, next_step_fits)) (search rules);
}

-- all rows of the plan are written
pub returns : goal.returns
returns g c =
    let id = c.args.numbers.journeys in
    let plan = c.args.plan.now in
    let all = ap (λ k. step_rows_of id (first_steps k plan)) (omega arith) ∙ step_rows-all none_taken id plan in
    let size = ap length all in
    record { did = open_as c.loop-step.invariant.did (λ _ t _ _. (tt, ap (λ rows. adds_steps rows t) all)) (omega (arith, size)) }
