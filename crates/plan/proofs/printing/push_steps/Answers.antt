use Rattle.std.proofs.Common.{map, sym, ap, ◌∙◌, arith}
use Rattle.std.proofs.lemmas.List.{length-map, get_or-map}
use Rattle.allotment.specs.Texts.{semicolon}
use Rattle.plan.specs.PlanModel.{step_said}
use Rattle.plan.specs.PlanLine.{step_text}
use Rattle.plan.proofs.PrintLemmas.{printed_more}
use Rattle.plan.proofs.printing.push_steps.Goals as goal

-- one more step is appended to those before it
pub loop-step-preserved : goal.loop-step-preserved
loop-step-preserved c =
    let later = c.in-Some.later.now in
    let x = c.step-item.result in
    printed_more step_text semicolon c.loop-step.step-index _ _ _ _ (map step_said c.args.steps.now) (map step_said later) (step_said c.in-Some.first.now)
    (step_said x) (ap (map step_said) c.in-Some.ensures.cases.0) c.loop-step.invariant c.in_ok-push_str.ensures.bytes
    (omega (arith, c.loop-step-test.true, length-map later step_said))
    (ap step_said c.step-item.is ∙ sym (get_or-map step_said later c.loop-step.step-index x (step_said x) (omega (arith, c.loop-step-test.true))))
    c.in_ok-push_step-2.ensures.step
