-- The rows are those of the plan, step by step.
use Rattle.std.proofs.Common.{◌<◌, ◌+◌, ◌∙◌, rules, eqb-true}
use Rattle.plan.specs.PlanModel.{step_count}
use Rattle.sql_reads.specs.PlanRows.{steps_after}
use Rattle.sql_reads.proofs.ReadPlans.{step_more, plan_whole}
use Rattle.sql_reads.proofs.GoodPlans.{steps_left, steps_next}
use Rattle.sql_reads.proofs.plan_rows.are_of_plan.Goals as goal

pub loop-step-preserved : goal.loop-step-preserved
loop-step-preserved c =
    let n = c.loop-step.step in
    let low : n < step_count c.args.plan.now = search rules in
    record {
      within = c.in-Some.ensures.told.within;
      told = step_more c.args.rows.now c.loop-step.count c.in-Some.after c.args.plan.now n low c.in-Some.ensures.told c.loop-step.invariant.told;
      left = λ id same. steps_next id c.args.rows.now c.loop-step.count c.in-Some.after c.args.plan.now n low c.in-Some.ensures.next (c.loop-step.invariant.left id same);
    }

pub returns-in-None-clause-exact : goal.returns-in-None-clause-exact
returns-in-None-clause-exact c id same =
    let n = c.loop-step.step in
    c.in-None.ensures.there id
    (steps_after id c.args.plan.now (n + 1), c.loop-step.invariant.left id same ∙ steps_left id c.args.plan.now n (search rules))

pub returns-clause-told : goal.returns-clause-told
returns-clause-told c whole =
    plan_whole c.args.rows.now c.loop-step.count c.loop-step.step c.args.plan.now (search rules) (eqb-true _ _ whole) c.loop-step.invariant.told
