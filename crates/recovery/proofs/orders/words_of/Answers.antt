-- The pieces that a split at blanks yields are the parts of the text.
use Rattle.std.proofs.Common.{arith}
use Rattle.std.proofs.lemmas.Iterator.Consumers.{map_from_collect}
use Rattle.std.proofs.lemmas.Iterator.Splits.{YieldsList-from_str_split}
use Rattle.recovery.proofs.orders.words_of.Goals as goal

-- the collected pieces are those that were yielded
pub returns : goal.returns
returns c =
    let split = c.split.ensures in
    let yields =
    YieldsList-from_str_split 32 c.args.text.now (omega arith) split.text split.has_more split.pattern in
    record { words = map_from_collect _ c.collect.ensures.ran yields }
