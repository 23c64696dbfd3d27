-- First the item's row, then the numbers of meta.
use Rattle.std.proofs.Common.{arith, rules}
use Rattle.sql_writes.proofs.Doing.{did_and, did_as, did_fail, keyed}
use Rattle.sql_writes.proofs.Permitting.{kind_num, may_add}
use Rattle.sql_writes.proofs.journeys.write_item.Goals as goal

pub returns-in_err-insert_item : goal.returns-in_err-insert_item
returns-in_err-insert_item g c = search (rules, arith, did_fail, keyed, may_add)

pub returns-in_err-update_meta : goal.returns-in_err-update_meta
returns-in_err-update_meta g c = record {
  did = did_fail (did_and (keyed c.in_ok-insert_item.ensures.writes) (keyed c.in_err-update_meta.ensures.writes).if_open)
      (λ t permits. search (rules, kind_num)) (omega arith) (search rules);
}

pub returns : goal.returns
returns g c = record {
  did = did_as (did_and (keyed c.in_ok-insert_item.ensures.writes) (keyed c.in_ok-update_meta.ensures.writes).if_open)
      (λ _ t _ below. search (rules, kind_num)) (omega arith);
}
