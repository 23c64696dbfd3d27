use Rattle.std.proofs.Common.{arith, Some}
use Rattle.std.proofs.lemmas.Result.{err_from_is_err_and}
use Rattle.plan.specs.PlanModel.{step_said}
use Rattle.plan.specs.Drafts.{drafted_step}
use Rattle.plan.proofs.EachLemmas.{steps_none, steps_more_at, steps_fail_at}
use Rattle.plan.proofs.PrintLemmas.{mapped_more}
use Rattle.plan.proofs.StepLemmas.{limits_more}
use Rattle.plan.proofs.limits.check_steps.Goals as goal

-- no step was checked yet
pub loop-i-init : goal.loop-i-init
loop-i-init c = grind (arith, steps_none)

-- the step does not keep a limit, and those before it keep all
pub returns-in_err-check_step-clause-checked : goal.returns-in_err-check_step-clause-checked
returns-in_err-check_step-clause-checked c = grind (arith, err_from_is_err_and, steps_fail_at (λ s. Some (drafted_step (step_said s))))

-- one more step keeps the limits
pub loop-i-preserved : goal.loop-i-preserved
loop-i-preserved c = grind (arith, limits_more, mapped_more step_said, steps_more_at (λ s. Some (drafted_step (step_said s))))
