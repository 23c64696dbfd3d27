use Rattle.std.proofs.Common.{arith}
use Rattle.std.proofs.lemmas.List.{map-append}
use Rattle.std.proofs.lemmas.Result.{err_from_is_err_and}
use Rattle.serde_json.specs.View.{view}
use Rattle.plan.specs.PlanJson.{json_step}
use Rattle.plan.proofs.LevelLemmas.{fault_of_part}
use Rattle.plan.proofs.EachLemmas.{steps_none, steps_more_at, steps_fail_at}
use Rattle.plan.proofs.json.steps_of.Goals as goal

-- nothing was read yet
pub loop-i-init : goal.loop-i-init
loop-i-init c = grind (arith, steps_none)

-- the step has a fault, and none before it has
pub returns-in_err-read : goal.returns-in_err-read
returns-in_err-read c = grind (arith, err_from_is_err_and, fault_of_part, steps_fail_at (λ v. json_step (view v)))

-- one more step was read
pub loop-i-preserved : goal.loop-i-preserved
loop-i-preserved c = grind (arith, map-append, steps_more_at (λ v. json_step (view v)))
