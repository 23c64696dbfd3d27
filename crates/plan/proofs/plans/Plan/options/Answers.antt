use Rattle.std.proofs.Common.{ap, length, arith, option_map, unwrap_or}
use Rattle.plan.specs.PlanModel.{StepPlan}
use Rattle.plan.proofs.StepLemmas.{step_read}
use Rattle.plan.proofs.plans.Plan.options.Goals as goal

-- the step that stands before the number is the one that the plan has there
pub returns : goal.returns
returns c =
    let step = step_read c.self.inside.steps.items c.self.inside.tries c.args.step c.args.self.now c.index.result.now
    c.self.view_is c.requires.from_one c.requires.in_plan c.index.ensures in
    let many = ap (λ s. unwrap_or (option_map (λ (s : StepPlan). length s.options) s) 0) step in
    record { count = omega (arith, many, c.len.ensures) }
