use Rattle.std.proofs.Common.{◌≤◌, ap, ◌∙◌, length, arith, option_map, option_and_then, unwrap_or}
use Rattle.plan.specs.PlanModel.{StepPlan, numbered}
use Rattle.plan.proofs.StepLemmas.{step_read, numbered_read}
use Rattle.plan.proofs.plans.Plan.want.Goals as goal

-- the option is one of the step that the plan has there
pub index-requires-2 : goal.index-requires-2
index-requires-2 c =
    let step = step_read c.self.inside.steps.items c.self.inside.tries c.args.step c.args.self.now c.index.result.now
    c.self.view_is c.requires.step_from_one c.requires.step_in_plan c.index.ensures in
    let many = ap (λ s. unwrap_or (option_map (λ (s : StepPlan). length s.options) s) 0) step in
    omega (arith, many, c.requires.option_from_one, c.requires.option_in_step)

-- the step, and then the option of it
pub returns : goal.returns
returns c =
    let step = step_read c.self.inside.steps.items c.self.inside.tries c.args.step c.args.self.now c.index.result.now
    c.self.view_is c.requires.step_from_one c.requires.step_in_plan c.index.ensures in
    let within : c.args.option ≤ length c.index.result.now.options.items =
    omega (arith, ap (λ s. unwrap_or (option_map (λ (s : StepPlan). length s.options) s) 0) step, c.requires.option_in_step) in
    record {
      want = ap (option_and_then (λ (s : StepPlan). numbered s.options c.args.option)) step
          ∙ numbered_read c.index.result.now.options.items c.args.option c.index-2.result.now
          c.requires.option_from_one within c.index-2.ensures;
    }
