use Rattle.std.proofs.Common.{◌≡◌, ◌<◌, ◌⊎◌, length, sym, ap, ◌∙◌, arith, inl, inr, Err}
use Rattle.std.proofs.lemmas.List.{length-map}
use Rattle.std.proofs.lemmas.Result.{err_from_is_err_and}
use Rattle.plan.specs.Limits.{most_steps}
use Rattle.plan.specs.PlanModel.{step_said, plan_said}
use Rattle.plan.proofs.KeptLemmas.{made_tries, made_miscounted, made_by_steps, made_keeps}
use Rattle.plan.proofs.plans.Plan.from_steps.Goals as goal
use Rattle.plan.proofs.plans.Plan.from_steps.Goals.{then-count-eq0-via-then-count-eq0, then-count-eq0-via-else-count-eq0+then-count-gt-MOST_STEPS}

-- there are more than nine tries
pub returns-then-tries-gt-MOST_TRIES-clause-refused : goal.returns-then-tries-gt-MOST_TRIES-clause-refused
returns-then-tries-gt-MOST_TRIES-clause-refused c = grind (arith, made_tries)

-- there is no step, or there are more than a plan may have
pub returns-then-count-eq0-clause-refused : goal.returns-then-count-eq0-clause-refused
returns-then-count-eq0-clause-refused c =
    let n = length c.args.steps.items in
    let many : (n ≡ 0) ⊎ (most_steps < n) = elim c.then-count-eq0.branch [
      | then-count-eq0-via-then-count-eq0 w ↦ inl (omega (arith, w.if-count-eq0.true, c.len-count.ensures))
      | then-count-eq0-via-else-count-eq0+then-count-gt-MOST_STEPS w ↦
          inr (omega (arith, w.if-count-gt-MOST_STEPS.true, c.len-count.ensures))
    ] in
    made_miscounted (plan_said c.args.steps.items c.args.tries) n (sym (length-map c.args.steps.items step_said))
    c.if-tries-gt-MOST_TRIES.false many
    ∙ ap Err (sym c.bad-then-count-eq0.ensures.bad)

-- a step does not keep a limit
pub returns-in_err-check_steps-clause-refused : goal.returns-in_err-check_steps-clause-refused
returns-in_err-check_steps-clause-refused c = grind (arith, err_from_is_err_and, made_by_steps, length-map)

-- all keep all limits
pub invariant_of-result : goal.invariant_of-result
invariant_of-result c =
    let checked = rw c.as_slice.ensures.value at c.in_ok-check_steps.ensures.checked in
    let limits = rw c.as_slice.ensures.value at c.in_ok-check_steps.ensures.limits in
    grind (arith, checked, limits, made_by_steps c.args.steps.items, made_keeps (plan_said c.args.steps.items c.args.tries))

-- the plan is that of the steps
pub returns-clause-made : goal.returns-clause-made
returns-clause-made c = grind (arith, made_by_steps)
