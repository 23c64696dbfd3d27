use Rattle.std.proofs.Common.{arith}
use Rattle.allotment.specs.Texts.{want_text, bar}
use Rattle.plan.proofs.PrintLemmas.{printed_more}
use Rattle.plan.proofs.printing.push_options.Goals as goal

-- one more option is appended to those before it
pub loop-want-preserved : goal.loop-want-preserved
loop-want-preserved c =
    printed_more want_text bar c.loop-want.want-index _ _ _ _ c.args.options.now c.in-Some.later.now c.in-Some.first.now c.want-item.result
    c.in-Some.ensures.cases.0 c.loop-want.invariant c.in_ok-push_str.ensures.bytes (omega (arith, c.loop-want-test.true)) c.want-item.is
    c.in_ok-push_want-2.ensures.want
