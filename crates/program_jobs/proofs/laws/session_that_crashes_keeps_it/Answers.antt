-- The law is used as it stands.
use Rattle.saga_core.specs.ChainExamples.{crashed_within_the_step}
use Rattle.saga_core.specs.Chains.{reopened}
use Rattle.program_jobs.proofs.laws.session_that_crashes_keeps_it.Goals as goal

pub returns : goal.returns
returns c = record {
  kept = c.promises.ensures.kept (reopened crashed_within_the_step) c.session_that_crashes.ensures.reopened.world;
}
