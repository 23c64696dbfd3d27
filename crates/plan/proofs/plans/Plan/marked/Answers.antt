use Rattle.std.proofs.Common.{ap, sym, option_map, false, unwrap_or}
use Rattle.plan.specs.PlanModel.{StepPlan}
use Rattle.plan.proofs.StepLemmas.{step_read}
use Rattle.plan.proofs.plans.Plan.marked.Goals as goal

-- the step that stands before the number is the one that the plan has there
pub returns : goal.returns
returns c =
    let step = step_read c.self.inside.steps.items c.self.inside.tries c.args.step c.args.self.now c.index.result.now
    c.self.view_is c.requires.from_one c.requires.in_plan c.index.ensures in
    record { mark = sym (ap (λ s. unwrap_or (option_map (λ (s : StepPlan). s.is_marked) s) false) step) }
