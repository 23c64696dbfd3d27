-- Too few or too many words make no request.
use Rattle.std.proofs.Common.{arith}
use Rattle.recovery.proofs.OrderLemmas.{other_words}
use Rattle.recovery.proofs.orders.command_of.Goals as goal

-- there are not two, three or four words
pub returns-in_default : goal.returns-in_default
returns-in_default c = grind (arith, other_words)
