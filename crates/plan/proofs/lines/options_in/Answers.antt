use Rattle.std.proofs.Common.{length, lit<, arith}
use Rattle.std.proofs.lemmas.Iterator.Consumers.{YieldsList-at, YieldsList-so_far, YieldsList-turn, YieldsList-end}
use Rattle.std.proofs.lemmas.Iterator.Splits.{YieldsList-from_str_split}
use Rattle.std.proofs.lemmas.List.{map-append}
use Rattle.std.proofs.lemmas.Result.{err_from_is_err_and}
use Rattle.allotment.specs.Texts.{parts, bar}
use Rattle.plan.specs.PlanLine.{option_draft}
use Rattle.plan.proofs.EachLemmas.{options_none, options_more, options_fail_at}
use Rattle.plan.proofs.lines.options_in.Goals as goal

-- nothing was read yet
pub loop-part-init : goal.loop-part-init
loop-part-init c = grind (arith, options_none)

-- the option has a fault, and none before it has
pub returns-in_err-want : goal.returns-in_err-want
returns-in_err-want c =
    let road = YieldsList-at c.into_iter-part-iterator.ensures.into_iter_gives
    (YieldsList-from_str_split 124 c.args.text.now (lit< tt)
    c.split-part-items.ensures.text c.split-part-items.ensures.has_more c.split-part-items.ensures.pattern) in
    let turn = YieldsList-turn road c.loop-part.yielded _ c.loop-part.yielded_by _ _ c.in-Some.part c.in-Some.is c.next.ensures.steps in
    let far = YieldsList-so_far road c.loop-part.yielded _ c.loop-part.yielded_by in
    grind (arith, far, turn, err_from_is_err_and, options_fail_at option_draft c.args.step (length c.loop-part.yielded) (parts bar c.args.text.now))

-- one more option was read
pub loop-part-preserved : goal.loop-part-preserved
loop-part-preserved c = grind (arith, map-append, options_more)

-- each option was read
pub returns : goal.returns
returns c =
    let road = YieldsList-at c.into_iter-part-iterator.ensures.into_iter_gives
    (YieldsList-from_str_split 124 c.args.text.now (lit< tt)
    c.split-part-items.ensures.text c.split-part-items.ensures.has_more c.split-part-items.ensures.pattern) in
    let end = YieldsList-end road c.loop-part.yielded _ c.loop-part.yielded_by _ _ c.in-None.is c.next.ensures.steps in
    grind (arith, end)
