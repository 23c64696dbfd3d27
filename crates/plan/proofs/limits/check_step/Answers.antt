use Rattle.std.proofs.Common.{arith}
use Rattle.std.proofs.lemmas.Result.{err_from_is_err_and}
use Rattle.allotment.proofs.TestLemmas.{and_make}
use Rattle.plan.specs.PlanModel.{step_said}
use Rattle.plan.proofs.LevelLemmas.{limits_pass}
use Rattle.plan.proofs.KeptLemmas.{kept_refused, kept_within}
use Rattle.plan.proofs.limits.check_step.Goals as goal

-- its mark, or the number of its options, is wrong
pub returns-in_err-check_limits-clause-checked : goal.returns-in_err-check_limits-clause-checked
returns-in_err-check_limits-clause-checked c =
    let p = err_from_is_err_and c.from_residual.result c.from_residual.ensures.1 in
    rw (p.1, p.2)
    (kept_refused c.args.last c.args.number c.len.result (step_said c.args.step.now) _ (omega (arith, c.len.ensures))
    c.in_err-check_limits.ensures.limits)

-- both are kept
pub returns-clause-checked : goal.returns-clause-checked
returns-clause-checked c =
    let wants = rw c.as_slice.ensures.value at c.know_limits.ensures.limits in
    kept_within c.args.last c.args.number c.len.result (step_said c.args.step.now) wants (omega (arith, c.len.ensures))
    c.in_ok-check_limits.ensures.limits

-- each want keeps its own limits
pub returns-clause-limits : goal.returns-clause-limits
returns-clause-limits c = grind (arith, limits_pass, and_make)
