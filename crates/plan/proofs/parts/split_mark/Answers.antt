use Rattle.std.proofs.Common.{sym}
use Rattle.plan.proofs.EndLemmas.{unmarked, unmarked_front}
use Rattle.plan.proofs.parts.split_mark.Goals as goal

-- the text ends with no `*`, so nothing is taken off
pub returns-in-None-clause-rest : goal.returns-in-None-clause-rest
returns-in-None-clause-rest c = sym (unmarked_front c.args.text.now (λ front same. c.in-None.ensures.cut front same))

-- the text ends with no `*`
pub returns-in-None-clause-mark : goal.returns-in-None-clause-mark
returns-in-None-clause-mark c = sym (unmarked c.args.text.now (λ front same. c.in-None.ensures.cut front same))
