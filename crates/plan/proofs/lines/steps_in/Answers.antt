use Rattle.std.proofs.Common.{length, Some, lit<, arith}
use Rattle.std.proofs.lemmas.Iterator.Consumers.{YieldsList-at, YieldsList-so_far, YieldsList-turn, YieldsList-end}
use Rattle.std.proofs.lemmas.Iterator.Splits.{YieldsList-from_str_split}
use Rattle.std.proofs.lemmas.List.{length_push, length-map, map-append}
use Rattle.std.proofs.lemmas.Result.{err_from_is_err_and}
use Rattle.allotment.specs.Texts.{parts, semicolon}
use Rattle.plan.specs.PlanLine.{step_draft}
use Rattle.plan.proofs.LevelLemmas.{fault_of_part}
use Rattle.plan.proofs.EachLemmas.{steps_none, steps_more, steps_fail_at}
use Rattle.plan.proofs.lines.steps_in.Goals as goal

-- nothing was read yet
pub loop-part-init : goal.loop-part-init
loop-part-init c = grind (arith, steps_none)

-- the step has a fault, and none before it has
pub returns-in_err-read : goal.returns-in_err-read
returns-in_err-read c =
    let road = YieldsList-at c.into_iter-part-iterator.ensures.into_iter_gives
    (YieldsList-from_str_split 59 c.args.text.now (lit< tt)
    c.split-part-items.ensures.text c.split-part-items.ensures.has_more c.split-part-items.ensures.pattern) in
    let turn = YieldsList-turn road c.loop-part.yielded _ c.loop-part.yielded_by _ _ c.in-Some.part c.in-Some.is c.next.ensures.steps in
    let far = YieldsList-so_far road c.loop-part.yielded _ c.loop-part.yielded_by in
    grind (
      arith,
      far,
      turn,
      err_from_is_err_and,
      fault_of_part,
      steps_fail_at (λ t. Some (step_draft t)) c.args.last (length c.loop-part.yielded) (parts semicolon c.args.text.now),
    )

-- one more step was read
pub loop-part-preserved : goal.loop-part-preserved
loop-part-preserved c = grind (arith, length_push, length-map, map-append, steps_more)

-- each step was read
pub returns : goal.returns
returns c =
    let road = YieldsList-at c.into_iter-part-iterator.ensures.into_iter_gives
    (YieldsList-from_str_split 59 c.args.text.now (lit< tt)
    c.split-part-items.ensures.text c.split-part-items.ensures.has_more c.split-part-items.ensures.pattern) in
    let end = YieldsList-end road c.loop-part.yielded _ c.loop-part.yielded_by _ _ c.in-None.is c.next.ensures.steps in
    grind (arith, end)
