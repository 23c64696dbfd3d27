-- First the want's nights, then the option, the save-point and the move.
use Rattle.std.proofs.Common.{arith, rules}
use Rattle.sql_writes.proofs.Doing.{did_and, did_fail, did_like, keyed, numbered}
use Rattle.sql_writes.proofs.Permitting.{have_room, may_mark}
use Rattle.sql_writes.proofs.journeys.write_compensation.Goals as goal

pub returns-in_err-give_want : goal.returns-in_err-give_want
returns-in_err-give_want g c = search (rules, arith, did_fail)

pub returns-in_err-mark_step : goal.returns-in_err-mark_step
returns-in_err-mark_step g c = record {
  did = did_fail (did_and c.in_ok-give_want.ensures.did (numbered c.in_err-mark_step.ensures.writes (λ _ _. tt)).if_open)
      (λ t permits. (have_room _ t permits.held, may_mark _ _ _ _ _ (omega arith) permits.options)) (omega arith) (search rules);
}

pub returns-in_err-delete_mark : goal.returns-in_err-delete_mark
returns-in_err-delete_mark g c = record {
  did = did_fail (did_and (did_and c.in_ok-give_want.ensures.did (numbered c.in_ok-mark_step.ensures.writes (λ _ _. tt)).if_open)
      (keyed c.in_err-delete_mark.ensures.writes).if_open)
      (λ t permits. ((have_room c.args.made.want t permits.held, tt), tt)) (omega arith) (search rules);
}

pub returns : goal.returns
returns g c = record {
  did = did_like (did_and
      (did_and (did_and c.in_ok-give_want.ensures.did (numbered c.in_ok-mark_step.ensures.writes (λ _ _. tt)).if_open)
      (keyed c.in_ok-delete_mark.ensures.writes).if_open) c.write_move.ensures.did.if_open)
      (search rules) (λ t permits. (((have_room c.args.made.want t permits.held, tt), tt), search rules)) (omega arith);
}
