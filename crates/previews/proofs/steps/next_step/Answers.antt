-- The next step of a running journey, and of one that goes back.
use Rattle.std.proofs.Common.{◌≡◌, ◌∙◌, ap, arith, is_some, subst, sym, IfSome, Some}
use Rattle.previews.specs.Previews.{HasOption, IsStepDown}
use Rattle.previews.proofs.PreviewLemmas.{down_is_next, goes_back, runs_below, up_is_next}
use Rattle.previews.proofs.steps.next_step.Goals as goal

-- a running journey is short of its last step
pub returns-in_err-step_up-in-Run-clause-there : goal.returns-in_err-step_up-in-Run-clause-there
returns-in_err-step_up-in-Run-clause-there c l j here taken =
    absurd (omega (arith, runs_below l j c.args.journey.now here c.in-Run.is, c.in_err-step_up-in-Run.ensures.steps.0))

-- one that goes back has done the step at its position
pub returns-in_err-step_down-in-Back-clause-there :
    goal.returns-in_err-step_down-in-Back-clause-there
returns-in_err-step_down-in-Back-clause-there c l j here taken =
    let r = c.args.journey.now in
    let back = goes_back l j r here c.in-Back.field-0 c.in-Back.is in
    let option : c.args.taken ≡ Some back.0 = taken c.in-Back.field-0 c.in-Back.is ∙ back.1.latest in
    absurd (c.in_err-step_down-in-Back.ensures.steps.0 (subst (λ o. IfSome o (HasOption r.plan r.cursor.pos)) (sym option) back.1.has) (ap is_some option))

pub returns-in_ok-step_up-in-Run-clause-next : goal.returns-in_ok-step_up-in-Run-clause-next
returns-in_ok-step_up-in-Run-clause-next c l j here taken =
    up_is_next l j c.args.journey.now here c.in_ok-step_up-in-Run.field-0 c.in-Run.is c.in_ok-step_up-in-Run.ensures.steps

pub returns-in_ok-step_down-in-Back-clause-next : goal.returns-in_ok-step_down-in-Back-clause-next
returns-in_ok-step_down-in-Back-clause-next c l j here taken =
    let r = c.args.journey.now in
    let next = c.in_ok-step_down-in-Back.field-0 in
    let back = goes_back l j r here c.in-Back.field-0 c.in-Back.is in
    let option : c.args.taken ≡ Some back.0 = taken c.in-Back.field-0 c.in-Back.is ∙ back.1.latest in
    down_is_next l j r here next c.in-Back.field-0 back.0 c.in-Back.is back.1
    (subst (λ o. IfSome o (λ option. IsStepDown r.plan r.cursor.pos option next)) option c.in_ok-step_down-in-Back.ensures.steps)
