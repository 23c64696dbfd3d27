-- First the want's nights, then the option and the move.
use Rattle.std.proofs.Common.{arith, rules}
use Rattle.sql_writes.proofs.Doing.{did_and, did_fail, did_like, numbered}
use Rattle.sql_writes.proofs.Permitting.{may_mark}
use Rattle.sql_writes.proofs.journeys.write_transaction.Goals as goal

pub returns-in_err-take_want : goal.returns-in_err-take_want
returns-in_err-take_want g c = search (rules, arith, did_fail)

pub returns-in_err-mark_step : goal.returns-in_err-mark_step
returns-in_err-mark_step g c = record {
  did = did_fail (did_and c.in_ok-take_want.ensures.did (numbered c.in_err-mark_step.ensures.writes (λ _ _. tt)).if_open)
      (λ t permits. (permits.free, may_mark _ _ _ _ _ (omega arith) permits.options)) (omega arith) (search rules);
}

pub returns : goal.returns
returns g c = record {
  did = did_like (did_and (did_and c.in_ok-take_want.ensures.did (numbered c.in_ok-mark_step.ensures.writes (λ _ _. tt)).if_open)
      c.write_move.ensures.did.if_open) (search rules) (search rules) (omega arith);
}
