-- Words whose last two are no state are of no reply.
use Rattle.std.proofs.Common.{arith}
use Rattle.commands.proofs.ReplyLemmas.{no_state}
use Rattle.commands.proofs.readings.stood_in.Goals as goal

-- the last two words are no state
pub returns-in_err-pos : goal.returns-in_err-pos
returns-in_err-pos c = grind (arith, no_state)
