-- More than 60 lines: five ways out and three clauses.
use Rattle.std.proofs.Common.{◌≡◌, ◌<◌, ◌⊎◌, inl, inr, length, sym, ap, ◌∙◌, arith, Ok, Err}
use Rattle.std.proofs.lemmas.Result.{err_from_is_err_and}
use Rattle.serde_json.specs.View.{view}
use Rattle.plan.specs.Limits.{most_steps}
use Rattle.plan.specs.PlanModel.{plan_said}
use Rattle.plan.specs.PlanJson.{plan_in_json}
use Rattle.plan.proofs.LevelLemmas.{fault_of_part}
use Rattle.plan.proofs.LineLemmas.{json_unshaped, json_no_tries, json_miscounted, json_by_steps}
use Rattle.plan.proofs.FaultLemmas.{json_fault_step}
use Rattle.plan.proofs.JsonKeptLemmas.{json_keeps_limits}
use Rattle.plan.proofs.plans.Plan.from_json.Goals as goal
use Rattle.plan.proofs.plans.Plan.from_json.Goals.{then-last-eq0-via-then-last-eq0, then-last-eq0-via-else-last-eq0+then-last-gt-MOST_STEPS}

-- it has not the shape of a plan
pub returns-in_default-clause-refused : goal.returns-in_default-clause-refused
returns-in_default-clause-refused c = cc (json_unshaped (view c.args.value.now) c.in_default.ensures.steps)

-- it has no tries
pub returns-in_default-plan_tries-clause-refused : goal.returns-in_default-plan_tries-clause-refused
returns-in_default-plan_tries-clause-refused c = grind (arith, json_no_tries)

-- it has no step, or more than a plan may
pub returns-then-last-eq0-clause-refused : goal.returns-then-last-eq0-clause-refused
returns-then-last-eq0-clause-refused c =
    let n = length c.in-Some.values.now in
    let many : (n ≡ 0) ⊎ (most_steps < n) = elim c.then-last-eq0.branch [
      | then-last-eq0-via-then-last-eq0 w ↦ inl (omega (arith, w.if-last-eq0.true))
      | then-last-eq0-via-else-last-eq0+then-last-gt-MOST_STEPS w ↦ inr (omega (arith, w.if-last-gt-MOST_STEPS.true))
    ] in
    json_miscounted (view c.args.value.now) c.in-Some.values.now c.in-Some-plan_tries.tries c.in-Some.ensures.steps
    c.in-Some-plan_tries.ensures.tries many
    ∙ ap Err (sym c.bad-then-last-eq0.ensures.bad)

-- a step has a fault
pub returns-in_err-steps-clause-refused : goal.returns-in_err-steps-clause-refused
returns-in_err-steps-clause-refused c =
    let p = err_from_is_err_and c.from_residual.result c.from_residual.ensures.1 in
    rw (p.1, p.2)
    (fault_of_part _ (plan_in_json (view c.args.value.now)) c.in_err-steps.field-0.0
    (λ bad. json_by_steps (view c.args.value.now) c.in-Some.values.now c.in-Some-plan_tries.tries
    c.in-Some.ensures.steps c.in-Some-plan_tries.ensures.tries (Err bad)
    (omega (arith, c.if-last-eq0.false)) (omega (arith, c.if-last-gt-MOST_STEPS.false)))
    c.in_err-steps.ensures.read)

-- the fault of a step names a step up to the last
pub returns-in_err-steps-clause-step : goal.returns-in_err-steps-clause-step
returns-in_err-steps-clause-step c = grind (arith, err_from_is_err_and, json_fault_step, returns-in_err-steps-clause-refused)

-- the plan is the one that is read
pub returns-clause-read : goal.returns-clause-read
returns-clause-read c =
    json_by_steps (view c.args.value.now) c.in-Some.values.now c.in-Some-plan_tries.tries c.in-Some.ensures.steps
    c.in-Some-plan_tries.ensures.tries _ (omega (arith, c.if-last-eq0.false)) (omega (arith, c.if-last-gt-MOST_STEPS.false)) c.in_ok-steps.ensures.read

-- what is read keeps the limits
pub invariant_of-result : goal.invariant_of-result
invariant_of-result c =
    let read : plan_in_json (view c.args.value.now) ≡ Ok (plan_said c.in_ok-steps.steps.items c.in-Some-plan_tries.tries) =
    json_by_steps (view c.args.value.now) c.in-Some.values.now c.in-Some-plan_tries.tries c.in-Some.ensures.steps
    c.in-Some-plan_tries.ensures.tries _ (omega (arith, c.if-last-eq0.false)) (omega (arith, c.if-last-gt-MOST_STEPS.false)) c.in_ok-steps.ensures.read in
    json_keeps_limits (view c.args.value.now) _ read
