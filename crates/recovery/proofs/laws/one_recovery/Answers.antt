-- The rules are deterministic.
use Rattle.recovery.proofs.OneLemmas.{recovery-one}
use Rattle.recovery.proofs.laws.one_recovery.Goals as goal

pub returns : goal.returns
returns c = record { one = recovery-one }
