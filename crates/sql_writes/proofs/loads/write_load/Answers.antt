-- First the batch's row, then those of its cells, then the numbers of meta.
use Rattle.std.proofs.Common.{arith, rules}
use Rattle.sql_writes.proofs.Doing.{did_and, did_as, did_fail, keyed, numbered}
use Rattle.sql_writes.proofs.loads.write_load.Goals as goal

pub returns-in_err-insert_batch : goal.returns-in_err-insert_batch
returns-in_err-insert_batch g c = record {
  did = did_fail (numbered c.in_err-insert_batch.ensures.writes (λ _ _. tt)) (λ t permits. search rules)
      (omega arith) (search rules);
}

pub returns-in_err-put_runs : goal.returns-in_err-put_runs
returns-in_err-put_runs g c = record {
  did = did_fail (did_and (numbered c.in_ok-insert_batch.ensures.writes (λ _ _. tt)) c.in_err-put_runs.ensures.did)
      (λ t permits. (tt, record { apart = permits.apart; cells = permits.cells })) (omega arith) (search rules);
}

pub returns-in_err-update_meta : goal.returns-in_err-update_meta
returns-in_err-update_meta g c = record {
  did = did_fail (did_and (did_and (numbered c.in_ok-insert_batch.ensures.writes (λ _ _. tt)) c.in_ok-put_runs.ensures.did)
      (keyed c.in_err-update_meta.ensures.writes).if_open) (λ t permits. ((tt, permits.apart), tt)) (omega arith) (search rules);
}

pub returns : goal.returns
returns g c = record {
  did = did_as (did_and (did_and (numbered c.in_ok-insert_batch.ensures.writes (λ _ _. tt)) c.in_ok-put_runs.ensures.did)
      (keyed c.in_ok-update_meta.ensures.writes).if_open) (λ _ t _ apart. search rules) (omega arith);
}
