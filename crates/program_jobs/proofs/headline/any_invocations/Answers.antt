-- Each invocation goes on from where the one before it ended.
use Rattle.program_jobs.proofs.ChainLemmas.{headline}
use Rattle.program_jobs.proofs.headline.any_invocations.Goals as goal

pub returns : goal.returns
returns c = record { headline = headline c.promises.ensures.kept }
