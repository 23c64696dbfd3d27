-- The load failed for the reason for which its book did.
use Rattle.commands.specs.declared.replies.Reply.{Reply}
use Rattle.desk_jobs.proofs.EndLemmas.{load_fault, not_of_opening}
use Rattle.desk_jobs.proofs.ReasonLemmas.{run_fails}
use Rattle.desk_jobs.proofs.loading.load_into.Goals as goal

pub returns-in-Err-clause-reason : goal.returns-in-Err-clause-reason
returns-in-Err-clause-reason g c sound first is =
    c.in-Err.ensures.reason sound first (run_fails {T = Reply} c.in-Err.fault c.into.result c.into.ensures is)

-- and with a fault of a load
pub returns-in-Err-clause-ends : goal.returns-in-Err-clause-ends
returns-in-Err-clause-ends g c = record {
  job = tt;
  opened = not_of_opening c.in-Err.fault c.into.result c.into.ensures;
  fault = load_fault c.in-Err.fault c.into.result c.into.ensures c.in-Err.ensures.fault;
}
