-- First the journey's row, then the item.
use Rattle.std.proofs.Common.{arith, rules}
use Rattle.sql_writes.proofs.Doing.{did_and, did_fail, did_like, keyed}
use Rattle.sql_writes.proofs.Permitting.{may_move, moved_on}
use Rattle.sql_writes.proofs.journeys.write_move.Goals as goal

pub returns-in_err-move_journey : goal.returns-in_err-move_journey
returns-in_err-move_journey g c = record {
  did = did_fail (keyed c.in_err-move_journey.ensures.writes)
      (λ t permits. rw c.cursor_row-row.ensures (may_move c.args.numbers c.args.journey c.args.cursor t permits))
      (omega arith) (search rules);
}

pub returns : goal.returns
returns g c = record {
  did = did_like (did_and (keyed c.in_ok-move_journey.ensures.writes) c.write_item.ensures.did.if_open)
      (search rules) (search (rules, moved_on)) (omega arith);
}
