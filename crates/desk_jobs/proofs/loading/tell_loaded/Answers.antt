-- The fault of a reply that was not written is that of a load, and none of the store.
use Rattle.desk_jobs.proofs.EndLemmas.{not_of_opening, not_of_store, reply_fault}
use Rattle.desk_jobs.proofs.loading.tell_loaded.Goals as goal

pub returns-in-Err-clause-ends : goal.returns-in-Err-clause-ends
returns-in-Err-clause-ends g c = record {
  job = tt;
  opened = not_of_opening c.in-Err.fault c.into.result c.into.ensures;
  fault = reply_fault c.in-Err.fault c.into.result c.into.ensures c.in-Err.ensures.sends.fault;
}

pub returns-in-Err-clause-no_store : goal.returns-in-Err-clause-no_store
returns-in-Err-clause-no_store g c = not_of_store c.in-Err.fault c.into.result c.into.ensures c.in-Err.ensures.sends.fault
