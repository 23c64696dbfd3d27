-- The order of a line that is not too long depends on its text.
use Rattle.std.proofs.Common.{◌∙◌, subst, sym}
use Rattle.std.specs.Str.{IsUtf8}
use Rattle.std.proofs.lemmas.Result.{IfOk-weaker}
use Rattle.recovery.specs.Orders.{meaning_of}
use Rattle.recovery.proofs.OrderLemmas.{means_as_text, means_no_text}
use Rattle.recovery.proofs.orders.order_of.Goals as goal

-- the text is what the line keeps
pub returns-in-Ok-clause-order : goal.returns-in-Ok-clause-order
returns-in-Ok-clause-order c =
    let same = c.in-Ok.ensures.cases.0 ∙ c.as_slice.ensures.value in
    IfOk-weaker c.order_of_text.result _ _ (λ order means text kept.
    means_as_text c.args.line.now c.in-Ok.text.now text (meaning_of order) c.if-line.false same (subst IsUtf8 (sym c.in-Ok.ensures.cases.0) c.in-Ok.ensures.cases.1) means kept) c.order_of_text.ensures.order

-- the line is not UTF-8
pub returns-in-Err-clause-order : goal.returns-in-Err-clause-order
returns-in-Err-clause-order c = λ text kept.
    means_no_text c.args.line.now c.as_slice.result.now text c.if-line.false c.as_slice.ensures.value c.in-Err.ensures.cases.0 kept
