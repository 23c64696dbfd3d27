-- No message is whole.
use Rattle.std.proofs.Common.{arith}
use Rattle.http_conversations.proofs.TextLemmas.{reads_too_long}
use Rattle.http_conversations.proofs.modes.first_wide.Goals as goal

pub returns-in-None : goal.returns-in-None
returns-in-None c = grind (arith, reads_too_long)
