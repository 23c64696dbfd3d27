-- What was read, after reads that were interrupted.
use Rattle.std.proofs.Common.{arith}
use Rattle.saga_core.proofs.ByteLemmas.{consumes_after}
use Rattle.http_conversations.proofs.serving.read_more.Goals as goal

pub returns-in-Ok-clause-receives : goal.returns-in-Ok-clause-receives
returns-in-Ok-clause-receives g c = grind (arith, consumes_after)
