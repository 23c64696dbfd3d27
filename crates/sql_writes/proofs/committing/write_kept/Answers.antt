-- First the event's rows, then the reply's.
use Rattle.std.proofs.Common.{arith, rules}
use Rattle.sql_writes.proofs.Doing.{did_and, did_as, did_fail, numbered}
use Rattle.sql_writes.proofs.CommitLemmas.{permits_fits, permits_reply}
use Rattle.sql_writes.proofs.committing.write_kept.Goals as goal

pub returns-in_err-write_rows : goal.returns-in_err-write_rows
returns-in_err-write_rows g c = record { did = λ line is. did_fail c.in_err-write_rows.ensures.did (λ t permits. permits.0) (omega arith) (search rules) }

pub returns-in_err-insert_answer : goal.returns-in_err-insert_answer
returns-in_err-insert_answer g c = record {
  did = λ line is. did_fail
      (did_and c.in_ok-write_rows.ensures.did (numbered c.in_err-insert_answer.ensures.writes (λ _ _. tt)).if_open)
      (λ t permits. (permits_fits c.args.numbers c.args.event.now t permits.0, search (rules, permits_reply, permits.1)))
      (omega arith) (search rules);
}

pub returns : goal.returns
returns g c = record {
  did = λ line is. did_as
      (did_and c.in_ok-write_rows.ensures.did (numbered c.in_ok-insert_answer.ensures.writes (λ _ _. tt)).if_open)
      (λ _ t _ fits. search rules) (omega arith);
}
