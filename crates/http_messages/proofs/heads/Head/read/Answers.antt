-- A head that was read completely is the whole prefix.
use Rattle.std.proofs.Common.{arith}
use Rattle.http_messages.proofs.HeadLemmas.{is_head_with}
use Rattle.http_messages.proofs.heads.Head.read.Goals as goal

-- the head that was read
pub returns-in-Ok-Complete-clause-head : goal.returns-in-Ok-Complete-clause-head
returns-in-Ok-Complete-clause-head c = grind (arith, is_head_with)
