-- The first message of the profile is said by it.
use Rattle.std.proofs.Common.{arith}
use Rattle.http_conversations.proofs.TextLemmas.{reads_plain}
use Rattle.http_conversations.proofs.modes.first_plain.Goals as goal

pub returns-in-Some : goal.returns-in-Some
returns-in-Some c = grind (arith, reads_plain)
