use Rattle.std.proofs.Common.{◌≡◌, Ok, Err, arith}
use Rattle.std.proofs.lemmas.Result.{err_from_is_err_and}
use Rattle.plan.specs.PlanModel.{plan_said}
use Rattle.plan.specs.PlanLine.{plan_in}
use Rattle.plan.proofs.ReadLemmas.{read_is_spelled}
use Rattle.plan.proofs.LevelLemmas.{fault_of_part}
use Rattle.plan.proofs.LineLemmas.{line_no_tries, line_too_long, line_by_steps}
use Rattle.plan.proofs.FaultLemmas.{fault_step}
use Rattle.plan.proofs.plans.Plan.from_line.Goals as goal

-- the line ends in no tries
pub returns-in_default-clause-refused : goal.returns-in_default-clause-refused
returns-in_default-clause-refused c = grind (arith, line_no_tries)

-- it has more steps than a plan may
pub returns-then-count-gt-MOST_STEPS-clause-refused : goal.returns-then-count-gt-MOST_STEPS-clause-refused
returns-then-count-gt-MOST_STEPS-clause-refused c = grind (arith, line_too_long)

-- a step has a fault
pub returns-in_err-steps-clause-refused : goal.returns-in_err-steps-clause-refused
returns-in_err-steps-clause-refused c =
    let p = err_from_is_err_and c.from_residual.result c.from_residual.ensures.1 in
    rw (p.1, p.2)
    (fault_of_part _ (plan_in c.args.text.now) c.in_err-steps.field-0.0
    (λ bad. line_by_steps c.args.text.now c.in-Some.front.now c.in-Some.tries c.count_steps-count.result
    c.in-Some.ensures.rest c.in-Some.ensures.tries c.count_steps-count.ensures.count (Err bad) c.if-count-gt-MOST_STEPS.false)
    c.in_err-steps.ensures.read)

-- the fault of a step names a step up to the last
pub returns-in_err-steps-clause-step : goal.returns-in_err-steps-clause-step
returns-in_err-steps-clause-step c = grind (arith, err_from_is_err_and, fault_step, returns-in_err-steps-clause-refused)

-- the plan is the one that is read
pub returns-clause-read : goal.returns-clause-read
returns-clause-read c =
    line_by_steps c.args.text.now c.in-Some.front.now c.in-Some.tries c.count_steps-count.result c.in-Some.ensures.rest
    c.in-Some.ensures.tries c.count_steps-count.ensures.count _ c.if-count-gt-MOST_STEPS.false c.in_ok-steps.ensures.read

-- what is read keeps the limits
pub invariant_of-result : goal.invariant_of-result
invariant_of-result c =
    let read : plan_in c.args.text.now ≡ Ok (plan_said c.in_ok-steps.steps.items c.in-Some.tries) =
    line_by_steps c.args.text.now c.in-Some.front.now c.in-Some.tries c.count_steps-count.result c.in-Some.ensures.rest
    c.in-Some.ensures.tries c.count_steps-count.ensures.count _ c.if-count-gt-MOST_STEPS.false c.in_ok-steps.ensures.read in
    (read_is_spelled c.args.text.now _ read).keeps_limits

-- the text that is read is the line of the plan
pub returns-clause-spelled : goal.returns-clause-spelled
returns-clause-spelled c = read_is_spelled c.args.text.now _ (returns-clause-read c)
