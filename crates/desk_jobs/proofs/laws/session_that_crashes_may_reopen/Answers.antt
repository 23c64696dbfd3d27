-- The law is used as it stands, of the world that was reopened once.
use Rattle.desk_jobs.proofs.laws.session_that_crashes_may_reopen.Goals as goal

pub returns : goal.returns
returns c = record {
  reopens = c.reopenings.ensures.reopens _ c.session_that_crashes.ensures.reopened.world;
}
