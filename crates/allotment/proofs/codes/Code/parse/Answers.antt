use Rattle.std.proofs.Common.{◌∙◌, sym, arith}
use Rattle.std.proofs.lemmas.Iterator.{YieldsList-from_slice}
use Rattle.std.proofs.lemmas.Iterator.Search.{all_from_yields_List}
use Rattle.std.proofs.lemmas.Bool.Decides.{nat_tests}
use Rattle.allotment.proofs.CodeLemmas.{is_code_byte, keep_if-code, keep_if-code_none, kept_code}
use Rattle.allotment.proofs.codes.Code.parse.Goals as goal

-- what is not short is no code
pub returns-in_err-kept : goal.returns-in_err-kept
returns-in_err-kept c = c.from_residual.ensures ∙ sym (keep_if-code_none c.args.text.now (sym c.in_err-kept.ensures))

-- the text is not empty, and each of its bytes passes
pub invariant_of-result : goal.invariant_of-result
invariant_of-result c =
    let good = all_from_yields_List is_code_byte _ _ _ c.all.ensures.ran (YieldsList-from_slice c.args.text.now cc) (λ x b q k. grind (arith, nat_tests)) in
    (kept_code c.args.text.now c.in_ok-kept.kept c.in_ok-kept.ensures (sym c.is_empty.ensures ∙ c.if-not-is_empty.true) (sym good ∙ c.if-all.true)).1

-- such a text is what is kept of it
pub returns-then-all : goal.returns-then-all
returns-then-all c =
    let good = all_from_yields_List is_code_byte _ _ _ c.all.ensures.ran (YieldsList-from_slice c.args.text.now cc) (λ x b q k. grind (arith, nat_tests)) in
    keep_if-code c.args.text.now c.in_ok-kept.kept c.in_ok-kept.ensures (sym c.is_empty.ensures ∙ c.if-not-is_empty.true) (sym good ∙ c.if-all.true)
