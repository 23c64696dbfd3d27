-- Each row gives the next option of the plan.
use Rattle.std.proofs.Common.{◌≡◌, ◌+◌, ◌++◌, ◌∷◌, [], ◌∙◌, inl, inr, rules, sym, ap, subst, refl, ◌==◌}
use Rattle.allotment.specs.Want.{Wanted}
use Rattle.plan.specs.declared.steps.PlanStep.{PlanStep}
use Rattle.sql_reads.specs.PlanRows.{Goes}
use Rattle.sql_reads.proofs.BuiltPlans.{at_start, at_end, next_option}
use Rattle.sql_reads.proofs.GoodPlans.{not_both, tells_one}
use Rattle.sql_reads.specs.GoodRows.{IsMemory}
use Rattle.sql_reads.proofs.plan_rows.steps_told.Goals as goal

pub loop-at-init : goal.loop-at-init
loop-at-init c id plan are = rw (c.new-steps.ensures.items, c.new-options.ensures.items) (at_start id plan c.args.rows.now are)

pub returns-in_err-want-clause-there : goal.returns-in_err-want-clause-there
returns-in_err-want-clause-there c id plan are =
    let next = next_option id plan c.args.rows.now c.loop-at.at c.loop-at.steps.items c.loop-at.options.items c.index-rows-at.result
    (c.loop-at.invariant id plan are) (search rules) (search rules) in
    let memory : IsMemory c.in_err-want.field-0.0 = c.in_err-want.ensures.there next.want next.good next.tells in
    search rules

pub loop-at-preserved-then-is_of_place : goal.loop-at-preserved-then-is_of_place
loop-at-preserved-then-is_of_place c id plan are =
    let rows = c.args.rows.now in
    let at = c.loop-at.at in
    let row = c.index-rows-at.result in
    let options = c.loop-at.options.items in
    let next = next_option id plan rows at c.loop-at.steps.items options row (c.loop-at.invariant id plan are) (search rules) (search rules) in
    let one = tells_one row next.want c.in_ok-want.want next.tells c.in_ok-want.ensures.told in
    let pushed : c.push.new.self.items ≡ options ++ (c.in_ok-want.want ∷ []) = search rules in
    elim next.after [
      | inl on ↦ subst (Goes id plan rows (at + 1) c.loop-at.steps.items) (ap (λ (w : Wanted). options ++ (w ∷ [])) one ∙ sym pushed) on.1
      | inr off ↦ absurd (off.0 (c.is_of_place.ensures.told c.if-is_of_place.true))
    ]

pub loop-at-preserved : goal.loop-at-preserved
loop-at-preserved c id plan are =
    let rows = c.args.rows.now in
    let at = c.loop-at.at in
    let row = c.index-rows-at.result in
    let options = c.loop-at.options.items in
    let next = next_option id plan rows at c.loop-at.steps.items options row (c.loop-at.invariant id plan are) (search rules) (search rules) in
    let one = tells_one row next.want c.in_ok-want.want next.tells c.in_ok-want.ensures.told in
    let step : PlanStep = record { options = c.push.new.self; save = row.save == 1 } in
    let made : c.push-in-loop-at.new.self.items ≡ c.loop-at.steps.items ++ (step ∷ []) = search rules in
    elim next.after [
      | inl on ↦ absurd (not_both c.is_of_place.result (c.is_of_place.ensures.exact on.0) c.if-is_of_place.false)
      | inr off ↦
          rw (made, c.new-options-in-loop-at.ensures.items)
          (off.1 step ((search rules) ∙ ap (λ (w : Wanted). options ++ (w ∷ [])) (sym one)) refl)
    ]

pub returns-clause-steps : goal.returns-clause-steps
returns-clause-steps c id plan are =
    at_end id plan c.args.rows.now c.loop-at.at c.loop-at.steps.items c.loop-at.options.items (c.loop-at.invariant id plan are) (search rules)
