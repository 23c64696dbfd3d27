-- Each law is a lemma on executions that go on.
use Rattle.std.proofs.Common.{arith}
use Rattle.saga_core.proofs.ChainLemmas.{goes_on_all, crashes, stays_world, stays_whole, reopens, adds, begins}
use Rattle.saga_core.proofs.laws.chains.Goals as goal

pub returns : goal.returns
returns c = search (arith, goes_on_all, crashes, stays_world, stays_whole, reopens, adds, begins)
