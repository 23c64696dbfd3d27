-- The nights are gone through from the last one on, and each sets the mark on its day.
use Rattle.std.proofs.Common.{◌∙◌, ap, arith, refl, subst, reverse}
use Rattle.std.proofs.lemmas.Iterator.Adapters.{YieldsList-from_rev_slice}
use Rattle.std.proofs.lemmas.Iterator.Consumers.{YieldsList-at, YieldsList-end}
use Rattle.std.proofs.lemmas.List.{length-set, reverse-reverse}
use Rattle.month_reports.proofs.CalendarLemmas.{reversed_more, Shows, shows_all, shows_more, shows_none}
use Rattle.month_reports.proofs.calendars.marks_of.Goals as goal

-- no night was gone through
pub loop-row-init : goal.loop-row-init
loop-row-init c = record { long = refl; shown = shows_none }

-- one more night was
pub loop-row-preserved : goal.loop-row-preserved
loop-row-preserved c = grind (arith, shows_more, length-set, reversed_more)

-- each night was
pub returns : goal.returns
returns c =
    let at = c.loop-row in
    let road = YieldsList-at c.into_iter-row-iterator.ensures.into_iter_gives (YieldsList-from_rev_slice c.args.month.now (cc)) in
    let end = YieldsList-end road at.yielded _ at.yielded_by _ _ c.in-None.is c.next.ensures.steps in
    let whole = ap reverse end.0 ∙ reverse-reverse c.args.month.now in
    record { marks = shows_all at.marks c.args.month.now at.invariant.long (subst (Shows at.marks) whole at.invariant.shown) }
